-- Rows of instructions on values of their types: none is mistyped, and what they give is of the type that they are to give.
use Rattle.std.proofs.Common.{◌≡◌, ℕ, zero, suc, ◌+◌, ◌-◌, ◌*◌, ◌/◌, ◌%◌, ◌^◌, ◌<◌, ◌≤◌, Bool, true, false, ◌&&◌, ◌||◌, nat_eq, nat_lt, if◌then◌else◌, ℤ, pos, negsuc, List, [], ◌∷◌, take, drop, Option, Some, None, slice_get, refl, arith}
use Rattle.std.proofs.Math.Nat.{mod-lt, mod-le, div-le_self}
use Rattle.std.proofs.lemmas.Nat.{or_lt, xor_lt, and_le_l}
use Rattle.std.proofs.lemmas.Bool.Decides.{nat_tests}
use Rattle.std.specs.Int.Bits.{bit_and, bit_or, bit_xor}
use Rattle.oi_base.specs.declared.words.Width.{Width}
use Rattle.oi_base.specs.declared.words.Width.TheVariants.{W1, W8, W16, W32}
use Rattle.oi_base.specs.Words.{bits, modulus, signed_of, word_of}
use Rattle.ir_core.specs.declared.flat.Scalar.{Scalar}
use Rattle.ir_core.specs.declared.flat.Scalar.TheVariants.{Word, Pointer}
use Rattle.ir_core.specs.declared.flat.BinOp.{BinOp}
use Rattle.ir_core.specs.declared.flat.BinOp.TheVariants.{Add, Sub, Mul, Udiv, Sdiv, Urem, Srem, Shl, Lshr, Ashr, And, Or, Xor}
use Rattle.ir_core.specs.declared.flat.Cmp.{Cmp}
use Rattle.ir_core.specs.declared.flat.CastOp.{CastOp}
use Rattle.ir_core.specs.declared.flat.CastOp.TheVariants.{Zext, Sext, Trunc}
use Rattle.ir_core.specs.Memory.{Value, Bits, At, NullPointer, Poisoned, Byte, Unset, PoisonByte, Octet, PartOf, Block, Memory, number, bits_below, null_or_poison, are_parts, pointer_of, loaded, is_within, load_from, load, scalar_size}
use Rattle.ir_core.specs.Words.{Outcome, Known, NoWord, NoMeaning, by_shift, by_divisor, by_signed, word_op, divides, word_test, word_cast, bit}
use Rattle.ir_core.specs.Rows.{Answer, Gives, NoGood, Mistyped, Read, Is, IsPoison, IsOther, as_word, outcome, of_unknown, bin_read, bin, test_read, pointer_test, is_pointer, bit_or_poison, icmp, choose, cast_read, moved, is_of}
use Rattle.ir_core.specs.Formed.{is_cast}

-- a value that a register of this type may have
abbrev pub IsOf : Scalar → Value → Type 0
IsOf s v = is_of s v ≡ true

-- an answer that a register of this type may get
abbrev pub Answers : Scalar → Answer → Type 0
Answers s (Gives v) = IsOf s v
Answers s NoGood = Unit {0}
Answers s Mistyped = ⊥

-- ---- words

abbrev pub IsWord : ℕ → Read → Type 0
IsWord m (Is a) = a < m
IsWord m IsPoison = Unit {0}
IsWord m IsOther = ⊥

less : (a m : ℕ) → nat_lt a m ≡ true → a < m
less a m e = grind (arith, nat_tests)

pub tested : (a m : ℕ) → a < m → nat_lt a m ≡ true
tested a m lt = grind (arith, nat_tests)

pub word_read : (w : Width) (v : Value) → IsOf (Word w) v → IsWord (modulus w) (as_word (modulus w) v)
word_read w (Bits a) e = rw e (less a (modulus w) e)
word_read w (At b o) e = absurd cc
word_read w NullPointer e = absurd cc
word_read w Poisoned e = tt

-- ---- operations

pub some_words : (w : Width) → 0 < modulus w
some_words W1 = omega arith
some_words W8 = omega arith
some_words W16 = omega arith
some_words W32 = omega arith

remainder : (w : Width) (a : ℕ) → a % modulus w < modulus w
remainder w a = mod-lt a (some_words w)

pub word_small : (w : Width) (i : ℤ) → word_of (modulus w) i < modulus w
word_small w (pos a) = remainder w a
word_small w (negsuc a) = let some = some_words w in omega (arith, some)

or_small : (w : Width) (a b : ℕ) → a < modulus w → b < modulus w → bit_or a b < modulus w
or_small W1 a b h k = or_lt 1 a b h k
or_small W8 a b h k = or_lt 8 a b h k
or_small W16 a b h k = or_lt 16 a b h k
or_small W32 a b h k = or_lt 32 a b h k

xor_small : (w : Width) (a b : ℕ) → a < modulus w → b < modulus w → bit_xor a b < modulus w
xor_small W1 a b h k = xor_lt 1 a b h k
xor_small W8 a b h k = xor_lt 8 a b h k
xor_small W16 a b h k = xor_lt 16 a b h k
xor_small W32 a b h k = xor_lt 32 a b h k

below : (a b m : ℕ) → a ≤ b → b < m → a < m
below a b m h k = omega arith

-- a word that an operation gives
abbrev IsSmall : ℕ → Outcome → Type 0
IsSmall m (Known a) = a < m
IsSmall m NoWord = Unit {0}
IsSmall m NoMeaning = Unit {0}

shift_small : (m : ℕ) (w : Width) (s x : ℕ) → x < m → IsSmall m (by_shift w s x)
shift_small m w s x h = at (nat_lt s (bits w))
  where
    at : (t : Bool) → IsSmall m (if t then Known x else NoWord)
    at true = h
    at false = tt

divisor_small : (m y x : ℕ) → x < m → IsSmall m (by_divisor y x)
divisor_small m y x h = at (nat_eq y 0)
  where
    at : (t : Bool) → IsSmall m (if t then NoMeaning else Known x)
    at true = tt
    at false = h

signed_small : (m n a b x : ℕ) → x < m → IsSmall m (by_signed n a b x)
signed_small m n a b x h = at ((nat_eq a (n / 2)) && (nat_eq b (n - 1)))
  where
    at : (t : Bool) → IsSmall m (if t then NoMeaning else by_divisor b x)
    at true = tt
    at false = divisor_small m b x h

op_small : (op : BinOp) (w : Width) (a b : ℕ) → a < modulus w → b < modulus w → IsSmall (modulus w) (word_op op w a b)
op_small Add w a b h k = remainder w (a + b)
op_small Sub w a b h k = remainder w (a + (modulus w - b))
op_small Mul w a b h k = remainder w (a * b)
op_small Udiv w a b h k = divisor_small (modulus w) b (a / b) (below (a / b) a (modulus w) (div-le_self a b) h)
op_small Sdiv w a b h k = signed_small (modulus w) (modulus w) a b _ (word_small w _)
op_small Urem w a b h k = divisor_small (modulus w) b (a % b) (below (a % b) a (modulus w) (mod-le a b) h)
op_small Srem w a b h k = signed_small (modulus w) (modulus w) a b _ (word_small w _)
op_small Shl w a b h k = shift_small (modulus w) w b _ (remainder w (a * 2 ^ b))
op_small Lshr w a b h k = shift_small (modulus w) w b (a / 2 ^ b) (below (a / 2 ^ b) a (modulus w) (div-le_self a (2 ^ b)) h)
op_small Ashr w a b h k = shift_small (modulus w) w b _ (word_small w _)
op_small And w a b h k = below (bit_and a b) a (modulus w) (and_le_l a b) h
op_small Or w a b h k = or_small w a b h k
op_small Xor w a b h k = xor_small w a b h k

outcome_of : (w : Width) (o : Outcome) → IsSmall (modulus w) o → Answers (Word w) (outcome o)
outcome_of w (Known a) h = tested a (modulus w) h
outcome_of w NoWord h = refl
outcome_of w NoMeaning h = tt

-- nothing, or poison
nothing_or_poison : (s : Scalar) (t : Bool) → IsOf s Poisoned → Answers s (if t then NoGood else Gives Poisoned)
nothing_or_poison s true h = tt
nothing_or_poison s false h = h

unknown_of : (op : BinOp) (w : Width) (b : ℕ) → Answers (Word w) (of_unknown op w b)
unknown_of Add w b = refl
unknown_of Sub w b = refl
unknown_of Mul w b = refl
unknown_of Udiv w b = nothing_or_poison (Word w) (nat_eq b 0) refl
unknown_of Sdiv w b = nothing_or_poison (Word w) (nat_eq b 0 || nat_eq b (modulus w - 1)) refl
unknown_of Urem w b = nothing_or_poison (Word w) (nat_eq b 0) refl
unknown_of Srem w b = nothing_or_poison (Word w) (nat_eq b 0 || nat_eq b (modulus w - 1)) refl
unknown_of Shl w b = refl
unknown_of Lshr w b = refl
unknown_of Ashr w b = refl
unknown_of And w b = refl
unknown_of Or w b = refl
unknown_of Xor w b = refl

bin_read_of : (op : BinOp) (w : Width) (x y : Read) → IsWord (modulus w) x → IsWord (modulus w) y → Answers (Word w) (bin_read op w x y)
bin_read_of op w (Is a) (Is b) h k = outcome_of w (word_op op w a b) (op_small op w a b h k)
bin_read_of op w (Is a) IsPoison h k = nothing_or_poison (Word w) (divides op) refl
bin_read_of op w (Is a) IsOther h k = absurd k
bin_read_of op w IsPoison (Is b) h k = unknown_of op w b
bin_read_of op w IsPoison IsPoison h k = nothing_or_poison (Word w) (divides op) refl
bin_read_of op w IsPoison IsOther h k = absurd k
bin_read_of op w IsOther y h k = absurd h

pub bin_of : (op : BinOp) (w : Width) (a b : Value) → IsOf (Word w) a → IsOf (Word w) b → Answers (Word w) (bin op w a b)
bin_of op w a b h k = bin_read_of op w (as_word (modulus w) a) (as_word (modulus w) b) (word_read w a h) (word_read w b k)

-- ---- comparisons

bit_of : (t : Bool) → IsOf (Word W1) (Bits (bit t))
bit_of true = refl
bit_of false = refl

test_of : (c : Cmp) (w : Width) (x y : Read) → IsWord (modulus w) x → IsWord (modulus w) y → Answers (Word W1) (test_read c w x y)
test_of c w (Is a) (Is b) h k = bit_of (word_test c w a b)
test_of c w (Is a) IsPoison h k = refl
test_of c w (Is a) IsOther h k = absurd k
test_of c w IsPoison (Is b) h k = refl
test_of c w IsPoison IsPoison h k = refl
test_of c w IsPoison IsOther h k = absurd k
test_of c w IsOther y h k = absurd h

points : (v : Value) → IsOf Pointer v → is_pointer v ≡ true
points (Bits a) e = absurd cc
points (At b o) e = refl
points NullPointer e = refl
points Poisoned e = refl

known_or_not : (o : Option Bool) → Answers (Word W1) (bit_or_poison o)
known_or_not None = refl
known_or_not (Some t) = bit_of t

pub icmp_of : (m : Memory) (c : Cmp) (s : Scalar) (a b : Value) → IsOf s a → IsOf s b → Answers (Word W1) (icmp m c s a b)
icmp_of m c (Word w) a b h k = test_of c w (as_word (modulus w) a) (as_word (modulus w) b) (word_read w a h) (word_read w b k)
icmp_of m c Pointer a b h k = rw (points a h, points b k) (known_or_not (pointer_test m c a b))

-- ---- choices and conversions

pub choose_of : (s : Scalar) (z : Read) (a b : Value) → IsWord 2 z → IsOf s a → IsOf s b → IsOf s Poisoned → Answers s (choose z a b)
choose_of s (Is zero) a b z h k e = k
choose_of s (Is (suc n)) a b z h k e = h
choose_of s IsPoison a b z h k e = e
choose_of s IsOther a b z h k e = absurd z

pub poison_of : (s : Scalar) → IsOf s Poisoned
poison_of (Word w) = refl
poison_of Pointer = refl

wider : (from to : Width) (a : ℕ) → bits from < bits to → a < modulus from → a < modulus to
wider W1 W1 a h k = k
wider W1 W8 a h k = omega arith
wider W1 W16 a h k = omega arith
wider W1 W32 a h k = omega arith
wider W8 W1 a h k = absurd (omega arith)
wider W8 W8 a h k = k
wider W8 W16 a h k = omega arith
wider W8 W32 a h k = omega arith
wider W16 W1 a h k = absurd (omega arith)
wider W16 W8 a h k = absurd (omega arith)
wider W16 W16 a h k = k
wider W16 W32 a h k = omega arith
wider W32 W1 a h k = absurd (omega arith)
wider W32 W8 a h k = absurd (omega arith)
wider W32 W16 a h k = absurd (omega arith)
wider W32 W32 a h k = k

cast_small : (c : CastOp) (from to : Width) (a : ℕ) → is_cast c from to → a < modulus from → word_cast c from to a < modulus to
cast_small Zext from to a h k = wider from to a h k
cast_small Sext from to a h k = word_small to (signed_of (modulus from) a)
cast_small Trunc from to a h k = remainder to a

pub cast_of : (c : CastOp) (from to : Width) (x : Read) → is_cast c from to → IsWord (modulus from) x → Answers (Word to) (cast_read c from to x)
cast_of c from to (Is a) h k = tested (word_cast c from to a) (modulus to) (cast_small c from to a h k)
cast_of c from to IsPoison h k = refl
cast_of c from to IsOther h k = absurd k

-- ---- addresses

pub moved_of : (v : Value) (d : ℕ) → IsOf Pointer v → Answers Pointer (moved v d)
moved_of (Bits a) d e = absurd cc
moved_of (At b o) d e = refl
moved_of NullPointer d e = at (nat_eq (d % 4294967296) 0)
  where
    at : (t : Bool) → Answers Pointer (if t then Gives NullPointer else Gives Poisoned)
    at true = refl
    at false = refl
moved_of Poisoned d e = refl

-- ---- loads

below_of : (w : Width) (o : Option ℕ) → IsOf (Word w) (bits_below (modulus w) o)
below_of w None = refl
below_of w (Some a) = at (nat_lt a (modulus w)) refl
  where
    at : (t : Bool) → nat_lt a (modulus w) ≡ t → IsOf (Word w) (if t then Bits a else Poisoned)
    at true e = e
    at false e = refl

null_of : (o : Option ℕ) → IsOf Pointer (null_or_poison o)
null_of None = refl
null_of (Some zero) = refl
null_of (Some (suc a)) = refl

pointer_is : (bs : List Byte) → IsOf Pointer (pointer_of bs)
pointer_is [] = null_of (number [])
pointer_is (Unset ∷ bs) = null_of (number (Unset ∷ bs))
pointer_is (PoisonByte ∷ bs) = null_of (number (PoisonByte ∷ bs))
pointer_is (Octet a ∷ bs) = null_of (number (Octet a ∷ bs))
pointer_is (PartOf b o k ∷ bs) = at (are_parts b o 0 (PartOf b o k ∷ bs))
  where
    at : (t : Bool) → IsOf Pointer (if t then At b o else Poisoned)
    at true = refl
    at false = refl

loaded_of : (s : Scalar) (bs : List Byte) → IsOf s (loaded s bs)
loaded_of (Word w) bs = below_of w (number bs)
loaded_of Pointer bs = pointer_is bs

-- what a load gives, if it gives something
abbrev pub Loads : Scalar → Option Value → Type 0
Loads s None = Unit {0}
Loads s (Some v) = IsOf s v

from_of : (s : Scalar) (align o : ℕ) (b : Option Block) → Loads s (load_from s align o b)
from_of s align o None = tt
from_of s align o (Some b) = at (is_within b o (scalar_size s) align) (take (scalar_size s) (drop o b.bytes))
  where
    at : (t : Bool) (bs : List Byte) → Loads s (if t then Some (loaded s bs) else None)
    at true bs = loaded_of s bs
    at false bs = tt

pub load_of : (m : Memory) (s : Scalar) (align : ℕ) (v : Value) → Loads s (load m s align v)
load_of m s align (Bits a) = tt
load_of m s align (At b o) = from_of s align o (slice_get m b)
load_of m s align NullPointer = tt
load_of m s align Poisoned = tt
