-- BlockPaths along successors to a block, around another one.
use Rattle.std.specs.Prelude.{◌≡◌, ℕ, ◌<◌, List, [], ◌∷◌, ◌++◌, Option, Some, None}
use Rattle.ir_core.specs.declared.func.Func.{Func}
use Rattle.ir_core.specs.ValidPaths.{IsSuccessor, IsPathOf, IsAssigned}
use Rattle.ir_assigned.specs.declared.names.Spot.{Spot}
use Rattle.ir_assigned.specs.declared.uses.Use.{Use}

-- blocks that lead from block v to block b, each to the next, none of which is the one to go around
abbrev pub IsRoute : Func → Option ℕ → ℕ → ℕ → List ℕ → Type 0
IsRoute f around b v [] = v ≡ b
IsRoute f around b v (u ∷ rest) = (u ≡ v) × (around ≡ Some v → ⊥) × ((w : ℕ) × IsSuccessor f v w × IsRoute f around b w rest)

-- a path from the entry to block b: the blocks before the last, and the last
abbrev pub IsPathTo : Func → Option ℕ → ℕ → List ℕ → Type 0
IsPathTo f around b path = (before : List ℕ) × (path ≡ before ++ b ∷ []) × IsRoute f around b 0 before

-- the block in which a register is written
abbrev pub block_of : Option Spot → Option ℕ
block_of None = None
block_of (Some s) = Some s.block

-- a path from the entry to a use on which its register isn't assigned
abbrev pub MissesOn : Func → Use → List ℕ → Type 0
MissesOn f u before = IsPathOf f (before ++ u.block ∷ []) × (IsAssigned f before u.block u.at u.local → ⊥)

abbrev pub Misses : Func → Use → List ℕ → Type 0
Misses f u path = (before : List ℕ) × (path ≡ before ++ u.block ∷ []) × MissesOn f u before

-- the register is written in the block of the use, before it
abbrev pub IsBefore : Option Spot → Use → Type 0
IsBefore None u = ⊥
IsBefore (Some s) u = (s.block ≡ u.block) × (s.at < u.at)
