-- Values, bytes and blocks of memory. Memory is a list of blocks without addresses; LangRef calls a block an allocated
-- object, and what follows is the part of its memory model that these types and instructions need.
use Rattle.std.specs.Prelude.{◌≡◌, ℕ, ◌<◌, zero, suc, ◌+◌, ◌*◌, ◌/◌, ◌%◌, Bool, true, false, not, ◌&&◌, nat_eq, nat_le, nat_lt, if◌then◌else◌, List, [], ◌∷◌, ◌++◌, length, take, drop, replicate, Option, Some, None, slice_get, slice_set}
use Rattle.oi_base.specs.declared.words.Width.TheVariants.{W1, W8, W16, W32}
use Rattle.ir_core.specs.declared.flat.Scalar.{Scalar}
use Rattle.ir_core.specs.declared.flat.Scalar.TheVariants.{Word, Pointer}
use Rattle.oi_base.specs.Words.{modulus}

-- a value: a word of some width, a pointer into a block, null, or poison
pub data Value : Type 0 where
  Bits : (word : ℕ) → Value
  At : (block offset : ℕ) → Value
  NullPointer : Value
  Poisoned : Value

-- a byte of memory: nothing yet, poison, a number, or one of the four parts of a pointer
pub data Byte : Type 0 where
  Unset : Byte
  PoisonByte : Byte
  Octet : (number : ℕ) → Byte
  PartOf : (block offset part : ℕ) → Byte

-- a block of memory has no address; its size is the number of its bytes
pub record Block : Type 0 where
  pub align : ℕ
  pub constant : Bool
  pub live : Bool
  pub bytes : List Byte

-- memory: its blocks, which are never given away, in the order in which they were made
abbrev pub Memory : Type 0
Memory = List Block

-- a part of a pointer is one of a pointer to one of so many blocks, with an offset of 32 bits
abbrev pub IsPartWithin : ℕ → Byte → Type 0
IsPartWithin blocks (PartOf b o k) = (b < blocks) × (o < 4294967296)
IsPartWithin blocks c = Unit {0}

-- the parts of pointers in memory are those of pointers to its own blocks
abbrev pub PointsWithin : Memory → Type 0
PointsWithin mem = (i : ℕ) (b : Block) → slice_get mem i ≡ Some b → (k : ℕ) (c : Byte) → slice_get b.bytes k ≡ Some c → IsPartWithin (length mem) c

abbrev pub scalar_size : Scalar → ℕ
scalar_size (Word W1) = 1
scalar_size (Word W8) = 1
scalar_size (Word W16) = 2
scalar_size (Word W32) = 4
scalar_size Pointer = 4

-- the n little-endian bytes of a word, and the word of such bytes, or none where a byte is no number
abbrev pub octets : ℕ → ℕ → List Byte
octets zero a = []
octets (suc n) a = Octet (a % 256) ∷ octets n (a / 256)

abbrev pub onto : ℕ → Option ℕ → Option ℕ
onto a None = None
onto a (Some b) = Some (a + 256 * b)

abbrev pub number : List Byte → Option ℕ
number [] = Some 0
number (Octet a ∷ bs) = onto a (number bs)
number (b ∷ bs) = None

-- the bytes that a store of a value writes
abbrev pub stored : Scalar → Value → List Byte
stored s (Bits a) = octets (scalar_size s) a
stored s (At b o) = PartOf b o 0 ∷ PartOf b o 1 ∷ PartOf b o 2 ∷ PartOf b o 3 ∷ []
stored s NullPointer = octets (scalar_size s) 0
stored s Poisoned = replicate (scalar_size s) PoisonByte

-- these bytes are the pointer's parts from part k on, in order
abbrev pub are_parts : ℕ → ℕ → ℕ → List Byte → Bool
are_parts b o k [] = true
are_parts b o k (PartOf b' o' k' ∷ bs) = nat_eq b b' && nat_eq o o' && nat_eq k k' && are_parts b o (k + 1) bs
are_parts b o k (_ ∷ bs) = false

-- a number below m, or poison
abbrev pub bits_below : ℕ → Option ℕ → Value
bits_below m None = Poisoned
bits_below m (Some a) = if nat_lt a m then Bits a else Poisoned

abbrev pub null_or_poison : Option ℕ → Value
null_or_poison None = Poisoned
null_or_poison (Some zero) = NullPointer
null_or_poison (Some (suc a)) = Poisoned

abbrev pub pointer_of : List Byte → Value
pointer_of (PartOf b o k ∷ bs) = if are_parts b o 0 (PartOf b o k ∷ bs) then At b o else Poisoned
pointer_of bs = null_or_poison (number bs)

-- the value that a load of these bytes gives
abbrev pub loaded : Scalar → List Byte → Value
loaded (Word w) bs = bits_below (modulus w) (number bs)
loaded Pointer bs = pointer_of bs

-- a scalar at an offset lies in a live block and is aligned there: the block's own alignment counts too
abbrev pub is_within : Block → ℕ → ℕ → ℕ → Bool
is_within b offset size align = b.live && nat_le (offset + size) (length b.bytes) && nat_eq (offset % align) 0 && nat_eq (b.align % align) 0

abbrev pub load_from : Scalar → ℕ → ℕ → Option Block → Option Value
load_from s align o None = None
load_from s align o (Some b) = if is_within b o (scalar_size s) align then Some (loaded s (take (scalar_size s) (drop o b.bytes))) else None

-- a load and a store (LangRef, "load Instruction" and "store Instruction"), or none where the behaviour is undefined
abbrev pub load : Memory → Scalar → ℕ → Value → Option Value
load m s align (At b o) = load_from s align o (slice_get m b)
load m s align _ = None

abbrev pub written : List Byte → ℕ → List Byte → List Byte
written old o new = take o old ++ new ++ drop (o + length new) old

abbrev pub store_to : Memory → ℕ → Scalar → ℕ → Value → ℕ → Option Block → Option Memory
store_to m i s align v o None = None
store_to m i s align v o (Some b) =
    if is_within b o (scalar_size s) align && not b.constant then Some (slice_set m i (record b { bytes = written b.bytes o (stored s v) })) else None

abbrev pub store : Memory → Scalar → ℕ → Value → Value → Option Memory
store m s align v (At b o) = store_to m b s align v o (slice_get m b)
store m s align v _ = None

-- a fresh block, and the end of one
abbrev pub fresh : ℕ → ℕ → Block
fresh size align = record { align = align; constant = false; live = true; bytes = replicate size Unset }

abbrev pub killed_at : Memory → ℕ → Option Block → Memory
killed_at m i None = m
killed_at m i (Some b) = slice_set m i (record b { live = false })

abbrev pub kill : Memory → ℕ → Memory
kill m i = killed_at m i (slice_get m i)

abbrev pub kill_all : Memory → List ℕ → Memory
kill_all m [] = m
kill_all m (i ∷ is) = kill_all (kill m i) is
