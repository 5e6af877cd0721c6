-- Words of a width as numbers below two to the width, and their signed numbers in two's complement.
use Rattle.std.specs.Prelude.{ℕ, ◌-◌, ◌/◌, ◌%◌, nat_lt, if◌then◌else◌, ℤ, pos, negsuc}
use Rattle.oi_base.specs.declared.words.Width.{Width}
use Rattle.oi_base.specs.declared.words.Width.TheVariants.{W1, W8, W16, W32}

-- how many bits a width has
abbrev pub bits : Width → ℕ
bits W1 = 1
bits W8 = 8
bits W16 = 16
bits W32 = 32

-- how many words a width has: two to its bits
abbrev pub modulus : Width → ℕ
modulus W1 = 2
modulus W8 = 256
modulus W16 = 65536
modulus W32 = 4294967296

-- the signed number of a word, where there are m words: the upper half of them is negative
abbrev pub signed_of : ℕ → ℕ → ℤ
signed_of m a = if nat_lt a (m / 2) then pos a else negsuc (m - 1 - a)

-- the word that is equal to a signed number modulo m
abbrev pub word_of : ℕ → ℤ → ℕ
word_of m (pos a) = a % m
word_of m (negsuc a) = m - 1 - a % m
