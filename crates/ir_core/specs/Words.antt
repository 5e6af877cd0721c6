-- Operations on words of 1, 8, 16 and 32 bits (LangRef, "Binary Operations", "Bitwise Binary Operations",
-- "icmp Instruction" and "Conversion Operations").
use Rattle.std.specs.Prelude.{ℕ, ◌+◌, ◌-◌, ◌*◌, ◌/◌, ◌%◌, ◌^◌, Bool, true, false, not, ◌&&◌, nat_lt, nat_le, nat_eq, if◌then◌else◌, ℤ, pos, negsuc, int_lt, int_div, int_rem, bit_and, bit_or, bit_xor}
use Rattle.oi_base.specs.declared.words.Width.{Width}
use Rattle.oi_base.specs.Words.{bits, modulus, signed_of, word_of}
use Rattle.ir_core.specs.declared.flat.BinOp.{BinOp}
use Rattle.ir_core.specs.declared.flat.BinOp.TheVariants.{Add, Sub, Mul, Udiv, Sdiv, Urem, Srem, Shl, Lshr, Ashr, And, Or, Xor}
use Rattle.ir_core.specs.declared.flat.Cmp.{Cmp}
use Rattle.ir_core.specs.declared.flat.Cmp.TheVariants.{Eq, Ne, Ugt, Uge, Ult, Ule, Sgt, Sge, Slt, Sle}
use Rattle.ir_core.specs.declared.flat.CastOp.{CastOp}
use Rattle.ir_core.specs.declared.flat.CastOp.TheVariants.{Zext, Sext, Trunc}

-- the quotient by a power of two, rounded down
abbrev pub int_shift : ℤ → ℕ → ℤ
int_shift (pos a) s = pos (a / 2 ^ s)
int_shift (negsuc a) s = negsuc (a / 2 ^ s)

-- what an operation gives on words: a word, poison, or no meaning, as its behaviour is undefined
pub data Outcome : Type 0 where
  Known : (word : ℕ) → Outcome
  NoWord : Outcome
  NoMeaning : Outcome

-- a shift by the width or more gives poison
abbrev pub by_shift : Width → ℕ → ℕ → Outcome
by_shift w s x = if nat_lt s (bits w) then Known x else NoWord

-- a division by zero is undefined, and so is that of the least signed word by -1, whose quotient is no word
abbrev pub by_divisor : ℕ → ℕ → Outcome
by_divisor y x = if nat_eq y 0 then NoMeaning else Known x

abbrev pub by_signed : ℕ → ℕ → ℕ → ℕ → Outcome
by_signed m a b x = if (nat_eq a (m / 2)) && (nat_eq b (m - 1)) then NoMeaning else by_divisor b x

-- all but these wrap
abbrev pub word_op : BinOp → Width → ℕ → ℕ → Outcome
word_op Add w a b = Known ((a + b) % modulus w)
word_op Sub w a b = Known ((a + (modulus w - b)) % modulus w)
word_op Mul w a b = Known ((a * b) % modulus w)
word_op Udiv w a b = by_divisor b (a / b)
word_op Sdiv w a b = by_signed (modulus w) a b (word_of (modulus w) (int_div (signed_of (modulus w) a) (signed_of (modulus w) b)))
word_op Urem w a b = by_divisor b (a % b)
word_op Srem w a b = by_signed (modulus w) a b (word_of (modulus w) (int_rem (signed_of (modulus w) a) (signed_of (modulus w) b)))
word_op Shl w a b = by_shift w b ((a * 2 ^ b) % modulus w)
word_op Lshr w a b = by_shift w b (a / 2 ^ b)
word_op Ashr w a b = by_shift w b (word_of (modulus w) (int_shift (signed_of (modulus w) a) b))
word_op And w a b = Known (bit_and a b)
word_op Or w a b = Known (bit_or a b)
word_op Xor w a b = Known (bit_xor a b)

-- the divisions
abbrev pub divides : BinOp → Bool
divides Udiv = true
divides Sdiv = true
divides Urem = true
divides Srem = true
divides _ = false

-- a condition of `icmp` on words
abbrev pub word_test : Cmp → Width → ℕ → ℕ → Bool
word_test Eq w a b = nat_eq a b
word_test Ne w a b = not (nat_eq a b)
word_test Ugt w a b = nat_lt b a
word_test Uge w a b = nat_le b a
word_test Ult w a b = nat_lt a b
word_test Ule w a b = nat_le a b
word_test Sgt w a b = int_lt (signed_of (modulus w) b) (signed_of (modulus w) a)
word_test Sge w a b = not (int_lt (signed_of (modulus w) a) (signed_of (modulus w) b))
word_test Slt w a b = int_lt (signed_of (modulus w) a) (signed_of (modulus w) b)
word_test Sle w a b = not (int_lt (signed_of (modulus w) b) (signed_of (modulus w) a))

-- a conversion from the first width to the second
abbrev pub word_cast : CastOp → Width → Width → ℕ → ℕ
word_cast Zext from to a = a
word_cast Sext from to a = word_of (modulus to) (signed_of (modulus from) a)
word_cast Trunc from to a = a % modulus to

-- the word of one bit
abbrev pub bit : Bool → ℕ
bit true = 1
bit false = 0
