-- Where rules are tested by their numbers, one that is found broken is the first broken one.
use Rattle.std.proofs.Common.{◌≡◌, ◌≢◌, ⊎_elim, ℕ, suc, ◌<◌, ◌≤◌, nat_eq, if◌then◌else◌, refl, sym, ap, ◌∙◌, subst, Option, Some, None, Result, Ok, Err, OnOk, IfErr, Contains, arith}
use Rattle.std.proofs.lemmas.Bool.{cases_lt}
use Rattle.oi_base.specs.declared.ids.Place.{Place}
use Rattle.ir_core.specs.declared.module.Module.{Module}
use Rattle.ir_core.specs.declared.func.Func.{Func}
use Rattle.ir_core.specs.Proper.{IsProper}
use Rattle.ir_core.specs.Valid.{IsValidFunc}
use Rattle.ir_core.specs.ValidPaths.{BreaksAssignment}
use Rattle.ir_core.specs.declared.rule.ModuleRule.{ModuleRule}
use Rattle.ir_core.specs.declared.rule.ModuleRule.TheVariants.{Main, SymbolTwice, TypeNames, Sizes, Initialisers, Totals, Alignments, Target}
use Rattle.ir_core.specs.declared.rule.FuncRule.{FuncRule}
use Rattle.ir_core.specs.declared.rule.FuncRule.TheVariants.{Names, References, Positions, Entry, Types, Constants, Calls, Phis, Cases, Assignment}
use Rattle.ir_core.specs.FirstBroken.{module_rule, func_rule, BreaksModule, BreaksFunc, IsFirstPlace}
use Rattle.module_rules.specs.First.{IsFound}
use Rattle.ir_assigned.specs.declared.fault.AssignFault.{AssignFault}
use Rattle.ir_assigned.specs.declared.fault.AssignFault.TheVariants as assign_faults
use Rattle.ir_assigned.specs.Assigned.{IsTestable, IsWitness, IfUnassigned}
use Rattle.ir_verifier.specs.declared.fault.RuleFault.{RuleFault}
use Rattle.ir_verifier.specs.declared.fault.RuleFault.TheVariants as faults
use Rattle.ir_verifier.specs.Verdict.{of_assignment, met, MeetsModuleRules, MeetsModuleRulesBelow, IsFaultOfModule, MeetsFuncRulesBelow, IsFaultOfFunc}

-- ---- rules of either kind, by their numbers

module _ {R : Type 0} (number : R → ℕ) (named : ℕ → R) (back : (r : R) → named (number r) ≡ r) (Breaks : R → Place → Type 0) where
  -- where the rules of lower numbers are broken nowhere and this one isn't either, so are those up to it
  one_more : (r : R) → ((s : R) (q : Place) → number s < number r → Breaks s q → ⊥) → ((p : Place) → Breaks r p → ⊥) → (s : R) (q : Place) → number s < suc (number r) → Breaks s q → ⊥
  one_more r below here s q lt b = ⊎_elim (λ l. below s q l b) (λ le. here q (subst (λ (t : R). Breaks t q) (same le) b)) (cases_lt (number s) (number r))
    where
      same : number r ≤ number s → s ≡ r
      same le = let e : number s ≡ number r = omega (arith, lt, le) in sym (back s) ∙ ap named e ∙ back r

-- a rule that is met is broken nowhere
pub nowhere : (Breaks : Place → Type 0) (n : ℕ) (first : Option Place) → IsFound Breaks first → met n first ≡ Ok tt → (p : Place) → Breaks p → ⊥
nowhere Breaks n None found same = found
nowhere Breaks n (Some q) found same = absurd cc

same_fault : (n : ℕ) (p : Place) (e : RuleFault) → met n (Some p) ≡ Err e → faults.Rule n p ≡ e
same_fault n p e same = cc

-- ---- the rules of a module as a whole

abbrev pub module_rule_at : ℕ → ModuleRule
module_rule_at n =
    if nat_eq n 1 then Main
    else (if nat_eq n 2 then SymbolTwice
    else (if nat_eq n 3 then TypeNames
    else (if nat_eq n 4 then Sizes
    else (if nat_eq n 5 then Initialisers
    else (if nat_eq n 6 then Totals
    else (if nat_eq n 7 then Alignments else Target))))))

pub module_rule_back : (r : ModuleRule) → module_rule_at (module_rule r) ≡ r
module_rule_back Main = refl
module_rule_back SymbolTwice = refl
module_rule_back TypeNames = refl
module_rule_back Sizes = refl
module_rule_back Initialisers = refl
module_rule_back Totals = refl
module_rule_back Alignments = refl
module_rule_back Target = refl

-- every number of such a rule is from 1 to 8
module_rule_range : (r : ModuleRule) → (0 < module_rule r) × (module_rule r < 9)
module_rule_range Main = (omega arith, omega arith)
module_rule_range SymbolTwice = (omega arith, omega arith)
module_rule_range TypeNames = (omega arith, omega arith)
module_rule_range Sizes = (omega arith, omega arith)
module_rule_range Initialisers = (omega arith, omega arith)
module_rule_range Totals = (omega arith, omega arith)
module_rule_range Alignments = (omega arith, omega arith)
module_rule_range Target = (omega arith, omega arith)

pub no_module_rule : (m : Module) → MeetsModuleRulesBelow (module_rule Main) m
no_module_rule m s q lt b = let r = (module_rule_range s).0 in absurd (omega (arith, lt, r))

pub all_module_rules : (m : Module) → MeetsModuleRulesBelow 9 m → MeetsModuleRules m
all_module_rules m below r p b = below r p (module_rule_range r).1 b

pub module_rule_met : (m : Module) (r : ModuleRule) (first : Option Place) → MeetsModuleRulesBelow (module_rule r) m → IsFound (BreaksModule m r) first → met (module_rule r) first ≡ Ok tt → MeetsModuleRulesBelow (suc (module_rule r)) m
module_rule_met m r first below found same = one_more module_rule module_rule_at module_rule_back (BreaksModule m) r below (nowhere (BreaksModule m r) (module_rule r) first found same)

pub module_rule_broken : (m : Module) (r : ModuleRule) (first : Option Place) (e : RuleFault) → MeetsModuleRulesBelow (module_rule r) m → IsFound (BreaksModule m r) first → met (module_rule r) first ≡ Err e → IsFaultOfModule m e
module_rule_broken m r None e below found same = absurd cc
module_rule_broken m r (Some p) e below found same = subst (IsFaultOfModule m) (same_fault (module_rule r) p e same) (r, refl, record { place = found; lower = below })

-- what the test of a rule tells
pub module_rule_ok : (m : Module) (r : ModuleRule) (first : Option Place) (told : Result Unit RuleFault) → MeetsModuleRulesBelow (module_rule r) m → IsFound (BreaksModule m r) first → told ≡ met (module_rule r) first → OnOk told (MeetsModuleRulesBelow (suc (module_rule r)) m)
module_rule_ok m r first (Ok u) below found same = module_rule_met m r first below found (sym same)
module_rule_ok m r first (Err e) below found same = tt

pub module_rule_err : (m : Module) (r : ModuleRule) (first : Option Place) (told : Result Unit RuleFault) → MeetsModuleRulesBelow (module_rule r) m → IsFound (BreaksModule m r) first → told ≡ met (module_rule r) first → IfErr told (IsFaultOfModule m)
module_rule_err m r first (Ok u) below found same = tt
module_rule_err m r first (Err e) below found same = module_rule_broken m r first e below found (sym same)

-- ---- the rules of a function

abbrev pub func_rule_at : ℕ → FuncRule
func_rule_at n =
    if nat_eq n 9 then Names
    else (if nat_eq n 10 then References
    else (if nat_eq n 11 then Positions
    else (if nat_eq n 12 then Entry
    else (if nat_eq n 13 then Types
    else (if nat_eq n 14 then Constants
    else (if nat_eq n 15 then Calls
    else (if nat_eq n 16 then Phis
    else (if nat_eq n 17 then Cases else Assignment))))))))

pub func_rule_back : (r : FuncRule) → func_rule_at (func_rule r) ≡ r
func_rule_back Names = refl
func_rule_back References = refl
func_rule_back Positions = refl
func_rule_back Entry = refl
func_rule_back Types = refl
func_rule_back Constants = refl
func_rule_back Calls = refl
func_rule_back Phis = refl
func_rule_back Cases = refl
func_rule_back Assignment = refl

func_rule_from : (r : FuncRule) → 8 < func_rule r
func_rule_from Names = omega arith
func_rule_from References = omega arith
func_rule_from Positions = omega arith
func_rule_from Entry = omega arith
func_rule_from Types = omega arith
func_rule_from Constants = omega arith
func_rule_from Calls = omega arith
func_rule_from Phis = omega arith
func_rule_from Cases = omega arith
func_rule_from Assignment = omega arith

pub no_func_rule : (m : Module) (f : Func) → MeetsFuncRulesBelow (func_rule Names) m f
no_func_rule m f s q lt b = let r = func_rule_from s in absurd (omega (arith, lt, r))

pub func_rule_met : (m : Module) (f : Func) (r : FuncRule) (first : Option Place) → MeetsFuncRulesBelow (func_rule r) m f → IsFound (BreaksFunc m f r) first → met (func_rule r) first ≡ Ok tt → MeetsFuncRulesBelow (suc (func_rule r)) m f
func_rule_met m f r first below found same = one_more func_rule func_rule_at func_rule_back (BreaksFunc m f) r below (nowhere (BreaksFunc m f r) (func_rule r) first found same)

pub func_rule_broken : (m : Module) (f : Func) (r : FuncRule) (first : Option Place) (e : RuleFault) → r ≢ Assignment → MeetsFuncRulesBelow (func_rule r) m f → IsFound (BreaksFunc m f r) first → met (func_rule r) first ≡ Err e → IsFaultOfFunc m f e
func_rule_broken m f r None e other below found same = absurd cc
func_rule_broken m f r (Some p) e other below found same = subst (IsFaultOfFunc m f) (same_fault (func_rule r) p e same) (r, refl, other, record { place = found; lower = below })

pub func_rule_ok : (m : Module) (f : Func) (r : FuncRule) (first : Option Place) (told : Result Unit RuleFault) → MeetsFuncRulesBelow (func_rule r) m f → IsFound (BreaksFunc m f r) first → told ≡ met (func_rule r) first → OnOk told (MeetsFuncRulesBelow (suc (func_rule r)) m f)
func_rule_ok m f r first (Ok u) below found same = func_rule_met m f r first below found (sym same)
func_rule_ok m f r first (Err e) below found same = tt

pub func_rule_err : (m : Module) (f : Func) (r : FuncRule) (first : Option Place) (told : Result Unit RuleFault) → r ≢ Assignment → MeetsFuncRulesBelow (func_rule r) m f → IsFound (BreaksFunc m f r) first → told ≡ met (func_rule r) first → IfErr told (IsFaultOfFunc m f)
func_rule_err m f r first (Ok u) other below found same = tt
func_rule_err m f r first (Err e) other below found same = func_rule_broken m f r first e other below found (sym same)

-- where the other rules are met, the function may be tested for assignment
pub testable : (m : Module) (f : Func) → IsProper m → Contains m.funcs f → MeetsFuncRulesBelow (func_rule Assignment) m f → IsTestable f
testable m f proper inside below = (
  m,
  proper,
  inside,
  record {
    names = λ p b. below Names p (omega arith) b;
    references = λ p b. below References p (omega arith) b;
    positions = λ p b. below Positions p (omega arith) b;
    entry = λ p b. below Entry p (omega arith) b;
    types = λ p b. below Types p (omega arith) b;
    constants = λ p b. below Constants p (omega arith) b;
    calls = λ p b. below Calls p (omega arith) b;
    phis = λ p b. below Phis p (omega arith) b;
    cases = λ p b. below Cases p (omega arith) b;
  },
)

pub valid_func : (m : Module) (f : Func) → MeetsFuncRulesBelow (func_rule Assignment) m f → ((p : Place) → BreaksAssignment f p → ⊥) → IsValidFunc m f
valid_func m f below assigned = record {
  names = λ p b. below Names p (omega arith) b;
  references = λ p b. below References p (omega arith) b;
  positions = λ p b. below Positions p (omega arith) b;
  entry = λ p b. below Entry p (omega arith) b;
  types = λ p b. below Types p (omega arith) b;
  constants = λ p b. below Constants p (omega arith) b;
  calls = λ p b. below Calls p (omega arith) b;
  phis = λ p b. below Phis p (omega arith) b;
  cases = λ p b. below Cases p (omega arith) b;
  assignment = assigned;
}

pub unassigned : (m : Module) (f : Func) (e : AssignFault) → MeetsFuncRulesBelow (func_rule Assignment) m f → IfUnassigned (λ u. IsFirstPlace (BreaksAssignment f) u.place) e → IfUnassigned (IsWitness f) e → IsFaultOfFunc m f (of_assignment e)
unassigned m f (assign_faults.Unassigned u) below first path = (record { place = first; lower = below }, path)
unassigned m f assign_faults.NoMemory below first path = tt

-- a rule that only the rule of assignment has this number
pub other_number : (r : FuncRule) (n : ℕ) → n ≡ func_rule r → r ≢ Assignment → n ≢ 18
other_number r n same other e = other (sym (func_rule_back r) ∙ ap func_rule_at (sym same ∙ e) ∙ func_rule_back Assignment)

pub module_number : (r : ModuleRule) (n : ℕ) → n ≡ module_rule r → n ≢ 18
module_number r n same e = let range = (module_rule_range r).1 in absurd (omega (arith, range, same, e))
