-- The predecessors of each block of a function, as lists of positions.
use Rattle.std.specs.Prelude.{◌≡◌, ◌⊎◌, ◌<◌, ℕ, List, [], length, Option, Some, Contains, slice_index_or}
use Rattle.ir_core.specs.declared.op.LocalId.{LocalId}
use Rattle.ir_core.specs.declared.func.Func.{Func}
use Rattle.ir_core.specs.ValidPaths.{IsSuccessor}
use Rattle.ir_assigned.specs.Names.{found}

abbrev pub before_at : List (List ℕ) → ℕ → List ℕ
before_at ps b = slice_index_or ps b []

-- the blocks before each block, of the first n
pub record AreBeforeTo (f : Func) (n : ℕ) (ps : List (List ℕ)) : Type 0 where
  pub count : length ps ≡ length f.blocks
  pub only : (a b : ℕ) → Contains (before_at ps b) a → IsSuccessor f a b
  pub each : (a b : ℕ) → a < n → IsSuccessor f a b → Contains (before_at ps b) a

abbrev pub AreBefore : Func → List (List ℕ) → Type 0
AreBefore f ps = AreBeforeTo f (length f.blocks) ps

-- one of the labels is that of block b
abbrev pub LeadsTo : List (Option ℕ) → List LocalId → ℕ → Type 0
LeadsTo labels ts b = (t : LocalId) × Contains ts t × (found labels t.0 ≡ Some b)

-- block a is put before each block that has one of the labels
pub record Joins (labels : List (Option ℕ)) (a : ℕ) (ts : List LocalId) (old new : List (List ℕ)) : Type 0 where
  pub count : length new ≡ length old
  pub kept : (b x : ℕ) → Contains (before_at old b) x → Contains (before_at new b) x
  pub only : (b x : ℕ) → Contains (before_at new b) x → Contains (before_at old b) x ⊎ ((x ≡ a) × LeadsTo labels ts b)
  pub each : (b : ℕ) → b < length old → LeadsTo labels ts b → Contains (before_at new b) a
