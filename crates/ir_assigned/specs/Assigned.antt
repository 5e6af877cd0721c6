-- What the test of definite assignment asks and answers.
use Rattle.std.specs.Prelude.{◌≡◌, ℕ, List, [], ◌∷◌, ◌++◌, Contains}
use Rattle.oi_base.specs.declared.ids.Place.{Place}
use Rattle.ir_core.specs.declared.module.Module.{Module}
use Rattle.ir_core.specs.declared.func.Func.{Func}
use Rattle.ir_core.specs.Proper.{IsProper}
use Rattle.ir_core.specs.ValidFunc.{BreaksNames, BreaksReferences, BreaksPositions, BreaksEntry}
use Rattle.ir_core.specs.ValidOps.{BreaksTypes, BreaksConstants, BreaksCalls, BreaksCases}
use Rattle.ir_core.specs.ValidPaths.{BreaksPhis, IsUnassignedOn}
use Rattle.ir_assigned.specs.declared.fault.Unassigned.{Unassigned}
use Rattle.ir_assigned.specs.declared.fault.AssignFault.{AssignFault}
use Rattle.ir_assigned.specs.declared.fault.AssignFault.TheVariants as faults

-- the rules of a function but that of assignment
pub record MeetsOtherRules (m : Module) (f : Func) : Type 0 where
  pub names : (p : Place) → BreaksNames f p → ⊥
  pub references : (p : Place) → BreaksReferences m f p → ⊥
  pub positions : (p : Place) → BreaksPositions f p → ⊥
  pub entry : (p : Place) → BreaksEntry f p → ⊥
  pub types : (p : Place) → BreaksTypes m f p → ⊥
  pub constants : (p : Place) → BreaksConstants f p → ⊥
  pub calls : (p : Place) → BreaksCalls m f p → ⊥
  pub phis : (p : Place) → BreaksPhis m f p → ⊥
  pub cases : (p : Place) → BreaksCases m f p → ⊥

-- some proper module holds the function, and there it meets the other rules
abbrev pub IsTestable : Func → Type 0
IsTestable f = (m : Module) × IsProper m × Contains m.funcs f × MeetsOtherRules m f

-- the path leads from the entry to a use of the register at the place, and the register isn't assigned on it
abbrev pub IsWitness : Func → Unassigned → Type 0
IsWitness f u = (before : List ℕ) × (b : ℕ) × (u.path ≡ before ++ b ∷ []) × IsUnassignedOn f before b u.local u.place

abbrev pub IfUnassigned : (Unassigned → Type 0) → AssignFault → Type 0
IfUnassigned P (faults.Unassigned u) = P u
IfUnassigned P faults.NoMemory = Unit {0}
