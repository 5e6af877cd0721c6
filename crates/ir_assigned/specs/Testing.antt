-- What the test of one use after another keeps.
use Rattle.std.specs.Prelude.{◌≡◌, ℕ, ◌<◌, Bool, false, IsTrue, List, length, Option, Some, None, slice_get}
use Rattle.oi_base.specs.declared.ids.Place.{Place}
use Rattle.ir_core.specs.declared.op.LocalId.{LocalId}
use Rattle.ir_core.specs.declared.func.Func.{Func}
use Rattle.ir_core.specs.Operands.{is_up_to}
use Rattle.ir_assigned.specs.declared.fault.Unassigned.{Unassigned}
use Rattle.ir_assigned.specs.declared.names.Spot.{Spot}
use Rattle.ir_assigned.specs.declared.uses.Use.{Use}
use Rattle.ir_assigned.specs.declared.search.Aim.{Aim}
use Rattle.ir_assigned.specs.declared.tester.Tester.{Tester}
use Rattle.ir_assigned.specs.Names.{found}
use Rattle.ir_assigned.specs.Search.{state, AreMarks, IsClean}
use Rattle.ir_assigned.specs.BlockPaths.{block_of, Misses, MissesOn}

-- a search for paths around the definition of a register
abbrev pub aim_of : List (Option Spot) → ℕ → LocalId → Aim
aim_of definitions round x = record { round = round; around = block_of (found definitions x.0) }

pub record IsTesting (f : Func) (definitions : List (Option Spot)) (t : Tester) : Type 0 where
  pub marks : AreMarks (length f.blocks) t.round (state t.search)
  pub positive : (x : LocalId) → t.local ≡ Some x → 0 < t.round
  pub clean : (x : LocalId) → t.local ≡ Some x → IsClean f (aim_of definitions t.round x) (state t.search)

abbrev pub is_known : Option Unassigned → Place → Bool
is_known None p = false
is_known (Some w) p = is_up_to w.place p

-- a fault that is that of a use
abbrev pub IsFaultOf : Func → Use → Unassigned → Type 0
IsFaultOf f u w = (w.place ≡ u.place) × (w.local ≡ u.local) × Misses f u w.path

-- what stands first once one more use is tested
pub data IsEarlier (f : Func) (u : Use) (first next : Option Unassigned) : Type 0 where
  Known : next ≡ first → IsTrue (is_known first u.place) → IsEarlier f u first next
  Good : next ≡ first → ((before : List ℕ) → MissesOn f u before → ⊥) → IsEarlier f u first next
  Newer : (w : Unassigned) → next ≡ Some w → IsFaultOf f u w → is_known first u.place ≡ false → IsEarlier f u first next

-- the first n uses miss nothing, or the fault is that of one of them, and no other stands before it
abbrev pub IsFirst : Func → List Use → ℕ → Option Unassigned → Type 0
IsFirst f uses n None = (k : ℕ) (u : Use) → k < n → slice_get uses k ≡ Some u → (before : List ℕ) → MissesOn f u before → ⊥
IsFirst f uses n (Some w) =
    ((k : ℕ) × (u : Use) × (slice_get uses k ≡ Some u) × IsFaultOf f u w)
    × ((k : ℕ) (u : Use) → k < n → slice_get uses k ≡ Some u → (before : List ℕ) → MissesOn f u before → IsTrue (is_up_to w.place u.place))
