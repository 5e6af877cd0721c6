-- What the verifier answers: the first broken rule of a module, and a path where that is the rule of assignment.
use Rattle.std.specs.Prelude.{◌≡◌, ◌≢◌, ℕ, ◌<◌, Option, Some, None, Result, Ok, Err}
use Rattle.oi_base.specs.declared.ids.Place.{Place}
use Rattle.ir_core.specs.declared.module.Module.{Module}
use Rattle.ir_core.specs.declared.func.Func.{Func}
use Rattle.ir_core.specs.declared.rule.ModuleRule.{ModuleRule}
use Rattle.ir_core.specs.declared.rule.FuncRule.{FuncRule}
use Rattle.ir_core.specs.declared.rule.FuncRule.TheVariants.{Assignment}
use Rattle.ir_core.specs.FirstBroken.{module_rule, func_rule, BreaksModule, BreaksFunc, IsFirstPlace, IsModuleFault, IsFuncFault}
use Rattle.ir_assigned.specs.declared.fault.Unassigned.{Unassigned}
use Rattle.ir_assigned.specs.declared.fault.AssignFault.{AssignFault}
use Rattle.ir_assigned.specs.declared.fault.AssignFault.TheVariants as assign_faults
use Rattle.ir_assigned.specs.Assigned.{IsWitness}
use Rattle.ir_verifier.specs.declared.fault.RuleFault.{RuleFault}
use Rattle.ir_verifier.specs.declared.fault.RuleFault.TheVariants as faults

-- ---- faults

-- a fault with a rule's number and a place
abbrev pub IfRule : (ℕ → Place → Type 0) → RuleFault → Type 0
IfRule P (faults.Rule number p) = P number p
IfRule P (faults.Unassigned u) = Unit {0}
IfRule P faults.NoMemory = Unit {0}

-- a fault with a register that isn't assigned
abbrev pub IfUnassigned : (Unassigned → Type 0) → RuleFault → Type 0
IfUnassigned P (faults.Rule number p) = Unit {0}
IfUnassigned P (faults.Unassigned u) = P u
IfUnassigned P faults.NoMemory = Unit {0}

-- the fault of a function whose registers aren't known to be assigned
abbrev pub of_assignment : AssignFault → RuleFault
of_assignment (assign_faults.Unassigned u) = faults.Unassigned u
of_assignment assign_faults.NoMemory = faults.NoMemory

-- a rule of this number is met where it is broken at no place, else the fault has the first one
abbrev pub met : ℕ → Option Place → Result Unit RuleFault
met number None = Ok tt
met number (Some p) = Err (faults.Rule number p)

-- ---- the rule of assignment

-- the first broken rule is that of assignment, in the function at this position, and the path leads from that function's
-- entry to the use of the register at the place, with no definition of the register before it
abbrev pub IsFirstUnassigned : Module → Unassigned → Type 0
IsFirstUnassigned m u = (at : ℕ) × (f : Func) × IsFuncFault m at f Assignment u.place × IsWitness f u

-- ---- the rules of a module as a whole

abbrev pub MeetsModuleRules : Module → Type 0
MeetsModuleRules m = (r : ModuleRule) (p : Place) → BreaksModule m r p → ⊥

-- none of the rules of lower numbers is broken
abbrev pub MeetsModuleRulesBelow : ℕ → Module → Type 0
MeetsModuleRulesBelow number m = (s : ModuleRule) (q : Place) → module_rule s < number → BreaksModule m s q → ⊥

-- a fault is of the first broken rule of the module as a whole, or for want of memory
abbrev pub IsFaultOfModule : Module → RuleFault → Type 0
IsFaultOfModule m (faults.Rule number p) = (r : ModuleRule) × (number ≡ module_rule r) × IsModuleFault m r p
IsFaultOfModule m (faults.Unassigned u) = ⊥
IsFaultOfModule m faults.NoMemory = Unit {0}

-- ---- the rules of a function

-- the function's first broken rule
pub record IsFirstInFunc (m : Module) (f : Func) (r : FuncRule) (p : Place) : Type 0 where
  pub place : IsFirstPlace (BreaksFunc m f r) p
  pub lower : (s : FuncRule) (q : Place) → func_rule s < func_rule r → BreaksFunc m f s q → ⊥

-- none of the rules of lower numbers is broken
abbrev pub MeetsFuncRulesBelow : ℕ → Module → Func → Type 0
MeetsFuncRulesBelow number m f = (s : FuncRule) (q : Place) → func_rule s < number → BreaksFunc m f s q → ⊥

-- a fault is of the function's first broken rule, or for want of memory
abbrev pub IsFaultOfFunc : Module → Func → RuleFault → Type 0
IsFaultOfFunc m f (faults.Rule number p) = (r : FuncRule) × (number ≡ func_rule r) × (r ≢ Assignment) × IsFirstInFunc m f r p
IsFaultOfFunc m f (faults.Unassigned u) = IsFirstInFunc m f Assignment u.place × IsWitness f u
IsFaultOfFunc m f faults.NoMemory = Unit {0}

-- ---- the rules of all functions

-- a fault is of the first broken rule of a function, in a module whose own rules are met, or for want of memory
abbrev pub IsFaultOfFuncs : Module → RuleFault → Type 0
IsFaultOfFuncs m (faults.Rule number p) = (at : ℕ) × (f : Func) × (r : FuncRule) × (number ≡ func_rule r) × (r ≢ Assignment) × IsFuncFault m at f r p
IsFaultOfFuncs m (faults.Unassigned u) = IsFirstUnassigned m u
IsFaultOfFuncs m faults.NoMemory = Unit {0}
