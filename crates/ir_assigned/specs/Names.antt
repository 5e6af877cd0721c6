-- Tables by local names: where blocks stand by their labels, and where registers are written.
use Rattle.std.specs.Prelude.{◌≡◌, ◌≢◌, ◌⊎◌, ◌<◌, ℕ, List, length, Option, Some, None, IsSome, slice_get, slice_index_or}
use Rattle.ir_core.specs.declared.op.LocalId.{LocalId}
use Rattle.ir_core.specs.declared.func.Instr.{Instr}
use Rattle.ir_core.specs.declared.func.Block.{Block}
use Rattle.ir_core.specs.declared.func.Func.{Func}
use Rattle.ir_core.specs.ValidPaths.{IsBlockOf}
use Rattle.ir_assigned.specs.declared.names.Spot.{Spot}

abbrev pub found : {T : Type 0} → List (Option T) → ℕ → Option T
found table x = slice_index_or table x None

-- block b has the label
abbrev pub IsAtLabel : Func → LocalId → ℕ → Type 0
IsAtLabel f x b = (k : Block) × IsBlockOf f b k × (k.label ≡ x)

-- each label of the first n blocks leads to a block that has it
pub record AreLabelsTo (f : Func) (n : ℕ) (table : List (Option ℕ)) : Type 0 where
  pub only : (x : LocalId) (b : ℕ) → found table x.0 ≡ Some b → IsAtLabel f x b
  pub each : (x : LocalId) (b : ℕ) → b < n → IsAtLabel f x b → IsSome (found table x.0)

abbrev pub AreLabels : Func → List (Option ℕ) → Type 0
AreLabels f table = AreLabelsTo f (length f.blocks) table

-- the instruction of a block at a position writes the register
abbrev pub IsWriter : Block → ℕ → LocalId → Type 0
IsWriter k at x = (i : Instr) × (slice_get k.code at ≡ Some i) × (i.result ≡ Some x)

-- the same of an instruction of a function
abbrev pub IsDefinition : Func → LocalId → Spot → Type 0
IsDefinition f x s = (k : Block) × IsBlockOf f s.block k × IsWriter k s.at x

-- each register that the first n blocks write leads to an instruction that writes it
pub record AreDefinitionsTo (f : Func) (n : ℕ) (table : List (Option Spot)) : Type 0 where
  pub only : (x : LocalId) (s : Spot) → found table x.0 ≡ Some s → IsDefinition f x s
  pub each : (x : LocalId) (s : Spot) → s.block < n → IsDefinition f x s → IsSome (found table x.0)

abbrev pub AreDefinitions : Func → List (Option Spot) → Type 0
AreDefinitions f table = AreDefinitionsTo f (length f.blocks) table

-- what an instruction writes is put into the table
abbrev pub PutsResult : Spot → Option LocalId → List (Option Spot) → List (Option Spot) → Type 0
PutsResult s None old new = new ≡ old
PutsResult s (Some x) old new = (found new x.0 ≡ Some s) × ((y : ℕ) → y ≢ x.0 → found new y ≡ found old y)

-- what the first n instructions of block b write is put into the table
pub record PutsDefinitions (b : ℕ) (k : Block) (n : ℕ) (old new : List (Option Spot)) : Type 0 where
  pub only : (x : LocalId) (s : Spot) → found new x.0 ≡ Some s → (found old x.0 ≡ Some s) ⊎ ((s.block ≡ b) × IsWriter k s.at x)
  pub each : (x : LocalId) (at : ℕ) → at < n → IsWriter k at x → IsSome (found new x.0)
  pub kept : (x : LocalId) → IsSome (found old x.0) → IsSome (found new x.0)

-- no two blocks have one label, and no two instructions write one register
abbrev pub LabelsDiffer : Func → Type 0
LabelsDiffer f = (x : LocalId) (a b : ℕ) → IsAtLabel f x a → IsAtLabel f x b → a ≡ b

abbrev pub RegistersDiffer : Func → Type 0
RegistersDiffer f = (x : LocalId) (s t : Spot) → IsDefinition f x s → IsDefinition f x t → (s.block ≡ t.block) × (s.at ≡ t.at)
