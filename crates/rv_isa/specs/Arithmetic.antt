-- What the instructions compute on words of 32 bits (RISC-V Unprivileged ISA, "Integer Computational Instructions"
-- and "M Standard Extension for Integer Multiplication and Division").
use Rattle.std.specs.Prelude.{ℕ, ◌+◌, ◌-◌, ◌*◌, ◌/◌, ◌%◌, ◌^◌, nat_eq, nat_lt, if◌then◌else◌, ℤ, int_lt, int_div, int_rem}
use Rattle.std.specs.Int.{from_bool}
use Rattle.std.specs.Int.Signed.{shr_z}
use Rattle.oi_base.specs.Words.{signed_of, word_of as word_modulo}

-- a word as a signed number in two's complement, and the word of a number
abbrev pub signed : ℕ → ℤ
signed a = signed_of (2 ^ 32) a

abbrev pub to_word : ℤ → ℕ
to_word z = word_modulo (2 ^ 32) z

abbrev pub wrapping_add : ℕ → ℕ → ℕ
wrapping_add a b = (a + b) % 2 ^ 32

abbrev pub wrapping_sub : ℕ → ℕ → ℕ
wrapping_sub a b = (a + (2 ^ 32 - b)) % 2 ^ 32

-- 1 where the first is less, else 0
abbrev pub is_less : ℕ → ℕ → ℕ
is_less a b = from_bool (int_lt (signed a) (signed b))

abbrev pub is_less_unsigned : ℕ → ℕ → ℕ
is_less_unsigned a b = from_bool (nat_lt a b)

-- shifts by the low five bits of the distance; the arithmetic one copies the sign
abbrev pub shift_left : ℕ → ℕ → ℕ
shift_left a n = a * 2 ^ (n % 32) % 2 ^ 32

abbrev pub shift_right : ℕ → ℕ → ℕ
shift_right a n = a / 2 ^ (n % 32)

abbrev pub shift_right_arithmetic : ℕ → ℕ → ℕ
shift_right_arithmetic a n = to_word (shr_z (signed a) (2 ^ (n % 32)))

-- the upper 32 bits of a product
abbrev pub upper_half : ℤ → ℕ
upper_half product = to_word (shr_z product (2 ^ 32))

-- division rounds toward zero; by zero the quotient has all bits set and the remainder is the dividend.
-- Where the quotient of signed numbers overflows, it is the dividend, and the remainder is 0
abbrev pub quotient : ℕ → ℕ → ℕ
quotient a b = if nat_eq b 0 then 2 ^ 32 - 1 else to_word (int_div (signed a) (signed b))

abbrev pub quotient_unsigned : ℕ → ℕ → ℕ
quotient_unsigned a b = if nat_eq b 0 then 2 ^ 32 - 1 else a / b

abbrev pub remainder : ℕ → ℕ → ℕ
remainder a b = if nat_eq b 0 then a else to_word (int_rem (signed a) (signed b))

abbrev pub remainder_unsigned : ℕ → ℕ → ℕ
remainder_unsigned a b = if nat_eq b 0 then a else a % b

-- the word of a byte or a halfword whose sign is copied upwards, where there are m of them
abbrev pub sign_extended : ℕ → ℕ → ℕ
sign_extended m a = to_word (signed_of m a)
