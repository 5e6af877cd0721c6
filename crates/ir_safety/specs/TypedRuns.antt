-- What the registers and the memory of a run hold.
use Rattle.std.specs.Prelude.{◌≡◌, ℕ, ◌<◌, true, List, ◌∷◌, Some, slice_get}
use Rattle.ir_core.specs.declared.flat.Scalar.{Scalar}
use Rattle.ir_core.specs.Memory.{Value, At, Byte, PartOf, Block, Memory}
use Rattle.ir_core.specs.Rows.{is_of}
use Rattle.ir_core.specs.Flat.{Activation, Run}

-- the offset of a pointer is a number of 32 bits
abbrev pub HasOffset : Value → Type 0
HasOffset (At b o) = o < 4294967296
HasOffset v = Unit {0}

abbrev pub HasPartOffset : Byte → Type 0
HasPartOffset (PartOf b o k) = o < 4294967296
HasPartOffset c = Unit {0}

-- a value of this type: a word below its width's power, a pointer with such an offset, null or poison
abbrev pub IsValueOf : Scalar → Value → Type 0
IsValueOf s v = (is_of s v ≡ true) × HasOffset v

-- each register of an activation that has a value has one of its type
abbrev pub HoldsTypes : (ℕ → ℕ → Scalar) → Activation → Type 0
HoldsTypes types a = (r : ℕ) (v : Value) → a.regs r ≡ Some v → IsValueOf (types a.func r) v

-- the parts of pointers in memory have offsets of 32 bits
abbrev pub HoldsOffsets : Memory → Type 0
HoldsOffsets mem = (i : ℕ) (b : Block) → slice_get mem i ≡ Some b → (k : ℕ) (c : Byte) → slice_get b.bytes k ≡ Some c → HasPartOffset c

-- the activations of a run, the newest first
abbrev pub activations : Run → List Activation
activations r = r.top ∷ r.below
