-- What operations give on values.
use Rattle.std.specs.Prelude.{ℕ, zero, suc, ◌+◌, ◌-◌, ◌*◌, ◌%◌, Bool, true, false, not, ◌&&◌, ◌||◌, nat_eq, nat_le, nat_lt, if◌then◌else◌, length, Option, Some, None, slice_get}
use Rattle.oi_base.specs.declared.words.Width.{Width}
use Rattle.oi_base.specs.declared.words.Width.TheVariants.{W32}
use Rattle.ir_core.specs.declared.flat.Scalar.{Scalar}
use Rattle.ir_core.specs.declared.flat.Scalar.TheVariants.{Word, Pointer}
use Rattle.ir_core.specs.declared.flat.BinOp.{BinOp}
use Rattle.ir_core.specs.declared.flat.BinOp.TheVariants.{Udiv, Sdiv, Urem, Srem}
use Rattle.ir_core.specs.declared.flat.Cmp.{Cmp}
use Rattle.ir_core.specs.declared.flat.Cmp.TheVariants.{Eq, Ne}
use Rattle.ir_core.specs.declared.flat.CastOp.{CastOp}
use Rattle.oi_base.specs.Words.{modulus, signed_of, word_of}
use Rattle.ir_core.specs.Words.{Outcome, Known, NoWord, NoMeaning, word_op, divides, word_test, word_cast, bit}
use Rattle.ir_core.specs.Memory.{Value, Bits, At, NullPointer, Poisoned, Block, Memory}

-- what a row gives: a value, nothing because it is undefined, or nothing because an operand is of another type
pub data Answer : Type 0 where
  Gives : (value : Value) → Answer
  NoGood : Answer
  Mistyped : Answer

-- an operand that is to be a word of m words
pub data Read : Type 0 where
  Is : (word : ℕ) → Read
  IsPoison : Read
  IsOther : Read

abbrev pub as_word : ℕ → Value → Read
as_word m (Bits a) = if nat_lt a m then Is a else IsOther
as_word m Poisoned = IsPoison
as_word m (At b o) = IsOther
as_word m NullPointer = IsOther

abbrev pub outcome : Outcome → Answer
outcome (Known a) = Gives (Bits a)
outcome NoWord = Gives Poisoned
outcome NoMeaning = NoGood

-- an operation whose first operand is poison: undefined where some word in that place would make it so (LangRef,
-- "Poison Values"), else poison
abbrev pub of_unknown : BinOp → Width → ℕ → Answer
of_unknown Udiv w b = if nat_eq b 0 then NoGood else Gives Poisoned
of_unknown Urem w b = if nat_eq b 0 then NoGood else Gives Poisoned
of_unknown Sdiv w b = if nat_eq b 0 || nat_eq b (modulus w - 1) then NoGood else Gives Poisoned
of_unknown Srem w b = if nat_eq b 0 || nat_eq b (modulus w - 1) then NoGood else Gives Poisoned
of_unknown op w b = Gives Poisoned

abbrev pub bin_read : BinOp → Width → Read → Read → Answer
bin_read op w (Is a) (Is b) = outcome (word_op op w a b)
bin_read op w IsPoison (Is b) = of_unknown op w b
bin_read op w IsOther b = Mistyped
bin_read op w a IsOther = Mistyped
bin_read op w a IsPoison = if divides op then NoGood else Gives Poisoned

abbrev pub bin : BinOp → Width → Value → Value → Answer
bin op w a b = bin_read op w (as_word (modulus w) a) (as_word (modulus w) b)

-- a test of two words
abbrev pub test_read : Cmp → Width → Read → Read → Answer
test_read c w (Is a) (Is b) = Gives (Bits (bit (word_test c w a b)))
test_read c w IsOther b = Mistyped
test_read c w a IsOther = Mistyped
test_read c w a b = Gives Poisoned

-- a pointer into a live block, below its size or at most at it
abbrev pub is_inside : Option Block → ℕ → Bool
is_inside None o = false
is_inside (Some b) o = b.live && nat_lt o (length b.bytes)

abbrev pub is_along : Option Block → ℕ → Bool
is_along None o = false
is_along (Some b) o = b.live && nat_le o (length b.bytes)

abbrev pub is_live : Option Block → Bool
is_live None = false
is_live (Some b) = b.live

-- whether two pointers are equal, where that can be said: two into different blocks can be told apart while both blocks
-- are live and both point to a byte of theirs
abbrev pub same_pointer : Memory → Value → Value → Option Bool
same_pointer m (At b o) (At c q) =
    if nat_eq b c then (if is_live (slice_get m b) then Some (nat_eq o q) else None)
    else (if is_inside (slice_get m b) o && is_inside (slice_get m c) q then Some false else None)
same_pointer m NullPointer NullPointer = Some true
same_pointer m (At b o) NullPointer = if is_inside (slice_get m b) o then Some false else None
same_pointer m NullPointer (At b o) = if is_inside (slice_get m b) o then Some false else None
same_pointer m _ _ = None

-- the offsets of two pointers into one live block, both along it
abbrev pub ordered : Memory → Cmp → Value → Value → Option Bool
ordered m c (At b o) (At d q) = if nat_eq b d && is_along (slice_get m b) o && is_along (slice_get m d) q then Some (word_test c W32 o q) else None
ordered m c _ _ = None

abbrev pub map_not : Option Bool → Option Bool
map_not None = None
map_not (Some b) = Some (not b)

abbrev pub pointer_test : Memory → Cmp → Value → Value → Option Bool
pointer_test m Eq a b = same_pointer m a b
pointer_test m Ne a b = map_not (same_pointer m a b)
pointer_test m c a b = ordered m c a b

abbrev pub is_pointer : Value → Bool
is_pointer (Bits a) = false
is_pointer _ = true

abbrev pub bit_or_poison : Option Bool → Answer
bit_or_poison None = Gives Poisoned
bit_or_poison (Some b) = Gives (Bits (bit b))

-- LangRef, "icmp Instruction"
abbrev pub icmp : Memory → Cmp → Scalar → Value → Value → Answer
icmp m c (Word w) a b = test_read c w (as_word (modulus w) a) (as_word (modulus w) b)
icmp m c Pointer a b = if is_pointer a && is_pointer b then bit_or_poison (pointer_test m c a b) else Mistyped

-- LangRef, "select Instruction": the condition, the value where it is true, and the value where it is false
abbrev pub choose : Read → Value → Value → Answer
choose (Is zero) a b = Gives b
choose (Is (suc n)) a b = Gives a
choose IsPoison a b = Gives Poisoned
choose IsOther a b = Mistyped

abbrev pub cast_read : CastOp → Width → Width → Read → Answer
cast_read c from to (Is a) = Gives (Bits (word_cast c from to a))
cast_read c from to IsPoison = Gives Poisoned
cast_read c from to IsOther = Mistyped

-- an index, sign-extended to 32 bits and times a stride
abbrev pub scaled : Width → ℕ → ℕ → ℕ
scaled w stride a = (word_of 4294967296 (signed_of (modulus w) a) * stride) % 4294967296

-- a pointer moved by a distance, modulo 2 to the 32; null stays null where it is not moved
abbrev pub moved : Value → ℕ → Answer
moved (At b o) d = Gives (At b ((o + d) % 4294967296))
moved NullPointer d = if nat_eq (d % 4294967296) 0 then Gives NullPointer else Gives Poisoned
moved Poisoned d = Gives Poisoned
moved (Bits a) d = Mistyped

-- a value that a store of this scalar takes
abbrev pub is_of : Scalar → Value → Bool
is_of (Word w) (Bits a) = nat_lt a (modulus w)
is_of (Word w) (At b o) = false
is_of (Word w) NullPointer = false
is_of (Word w) Poisoned = true
is_of Pointer (Bits a) = false
is_of Pointer (At b o) = true
is_of Pointer NullPointer = true
is_of Pointer Poisoned = true
