-- A proper module is valid or has a first broken rule: the rules are decided one after the other.
use Rattle.std.proofs.Common.{◌≡◌, ◌⊎◌, inl, inr, ℕ, zero, suc, ◌+◌, ◌<◌, ◌≤◌, length, slice_get, Some, None, refl, subst, arith}
use Rattle.std.proofs.lemmas.Option.{slice_get_within}
use Rattle.oi_base.specs.declared.ids.Place.{Place}
use Rattle.ir_core.specs.declared.module.Module.{Module}
use Rattle.ir_core.specs.declared.func.Func.{Func}
use Rattle.ir_core.specs.Proper.{IsProper, IsProperFunc}
use Rattle.ir_core.specs.Valid.{IsValid, IsValidFunc}
use Rattle.ir_core.specs.ValidFunc.{locals_at}
use Rattle.ir_core.specs.ValidPaths.{BreaksAssignment}
use Rattle.ir_core.specs.declared.rule.ModuleRule.{ModuleRule}
use Rattle.ir_core.specs.declared.rule.ModuleRule.TheVariants.{Main, SymbolTwice, TypeNames, Sizes, Initialisers, Totals, Alignments, Target}
use Rattle.ir_core.specs.declared.rule.FuncRule.{FuncRule}
use Rattle.ir_core.specs.declared.rule.FuncRule.TheVariants.{Names, References, Positions, Entry, Types, Constants, Calls, Phis, Cases, Assignment}
use Rattle.ir_core.specs.FirstBroken.{module_rule, func_rule, BreaksModule, BreaksFunc, IsFirstPlace, IsModuleFault, IsFuncFault, IsFirstBroken}
use Rattle.ir_core.proofs.Lists.{element}
use Rattle.module_rules.specs.First.{earliest}
use Rattle.module_rules.proofs.RulesDecided.{Found, decided}
use Rattle.ir_assigned.specs.declared.fault.Unassigned.{Unassigned}
use Rattle.ir_assigned.specs.Assigned.{IsWitness}
use Rattle.ir_assigned.proofs.FirstDecided.{decided as assignment_decided}
use Rattle.ir_verifier.specs.Faults.{nothing_yet, with_locals, scope_of, reference_faults, position_faults, entry_faults, constant_faults, case_faults}
use Rattle.ir_verifier.specs.CallFaults.{call_faults}
use Rattle.ir_verifier.specs.PhiFaults.{phi_faults, sources_of}
use Rattle.ir_verifier.specs.TypeFaults.{type_faults, typing_of}
use Rattle.ir_verifier.specs.Verdict.{MeetsModuleRules, MeetsModuleRulesBelow, IsFirstInFunc, MeetsFuncRulesBelow}
use Rattle.ir_verifier.proofs.NameLaws.{names_found}
use Rattle.ir_verifier.proofs.ReferencesFound.{references_found}
use Rattle.ir_verifier.proofs.PositionLaws.{positions_found}
use Rattle.ir_verifier.proofs.EntryLaws.{entry_found}
use Rattle.ir_verifier.proofs.TypesFound.{types_found}
use Rattle.ir_verifier.proofs.ConstantLaws.{constants_found}
use Rattle.ir_verifier.proofs.CallLaws.{calls_found}
use Rattle.ir_verifier.proofs.PhiLaws.{phis_found}
use Rattle.ir_verifier.proofs.CaseLaws.{cases_found}
use Rattle.ir_verifier.proofs.VerdictLaws.{no_module_rule, all_module_rules, module_rule_met, no_func_rule, func_rule_met, valid_func}
use Rattle.ir_verifier.proofs.VerdictTold.{at_position, one_more_func, is_valid}

module _ (m : Module) (proper : IsProper m) where
  -- ---- the rules of the module as a whole

  abbrev ModuleFault : Type 0
  ModuleFault = (r : ModuleRule) × (p : Place) × IsModuleFault m r p

  -- the rules of numbers below this one are met, or one is the first that is broken
  abbrev ModuleUpTo : ℕ → Type 0
  ModuleUpTo n = MeetsModuleRulesBelow n m ⊎ ModuleFault

  module_step : (r : ModuleRule) → ModuleUpTo (module_rule r) → ModuleUpTo (suc (module_rule r))
  module_step r (inr fault) = inr fault
  module_step r (inl below) = by_place (decided m r proper below)
    where
      by_place : Found (BreaksModule m r) → ModuleUpTo (suc (module_rule r))
      by_place (None, met) = inl (module_rule_met m r None below met refl)
      by_place (Some p, first) = inr (r, p, record { place = first; lower = below })

  of_module : ModuleUpTo 9
  of_module =
      module_step Target (module_step Alignments (module_step Totals (module_step Initialisers (module_step Sizes (module_step TypeNames (module_step SymbolTwice (module_step Main (inl (no_module_rule m)))))))))

  -- ---- the rules of a function

  module _ (own : MeetsModuleRules m) where
    module _ (at : ℕ) (f : Func) (here : slice_get m.funcs at ≡ Some f) where
      is_proper : IsProperFunc f
      is_proper = at_position IsProperFunc m.funcs at f proper.each_func here

      func_decided : (r : FuncRule) → MeetsFuncRulesBelow (func_rule r) m f → Found (BreaksFunc m f r)
      func_decided Names below = ((with_locals nothing_yet (locals_at f)).first, names_found f)
      func_decided References below = (earliest None (reference_faults (scope_of m f) f), references_found m f is_proper)
      func_decided Positions below = (earliest None (position_faults f), positions_found f)
      func_decided Entry below = (earliest None (entry_faults f), entry_found f)
      func_decided Types below = (earliest None (type_faults (typing_of m f) f), types_found m f)
      func_decided Constants below = (earliest None (constant_faults f), constants_found f)
      func_decided Calls below = (earliest None (call_faults m f), calls_found m f (λ p b. own SymbolTwice p b) (λ p b. below Types p (omega arith) b))
      func_decided Phis below = (earliest None (phi_faults m.types.defs (sources_of f) f), phis_found m f)
      func_decided Cases below = (earliest None (case_faults f), cases_found m f)
      func_decided Assignment below = by_fault (assignment_decided f (λ p b. below Names p (omega arith) b))
        where
          by_fault : ((p : Place) → BreaksAssignment f p → ⊥) ⊎ ((u : Unassigned) × IsFirstPlace (BreaksAssignment f) u.place × IsWitness f u) → Found (BreaksAssignment f)
          by_fault (inl met) = (None, met)
          by_fault (inr u) = (Some u.0.place, u.1)

      abbrev FuncFault : Type 0
      FuncFault = (r : FuncRule) × (p : Place) × IsFirstInFunc m f r p

      abbrev FuncUpTo : ℕ → Type 0
      FuncUpTo n = MeetsFuncRulesBelow n m f ⊎ FuncFault

      func_step : (r : FuncRule) → FuncUpTo (func_rule r) → FuncUpTo (suc (func_rule r))
      func_step r (inr fault) = inr fault
      func_step r (inl below) = by_place (func_decided r below)
        where
          by_place : Found (BreaksFunc m f r) → FuncUpTo (suc (func_rule r))
          by_place (None, met) = inl (func_rule_met m f r None below met refl)
          by_place (Some p, first) = inr (r, p, record { place = first; lower = below })

      of_func : FuncUpTo 19
      of_func =
          func_step Assignment (func_step Cases (func_step Phis (func_step Calls (func_step Constants (func_step Types (func_step Entry (func_step Positions (func_step References (func_step Names (inl (no_func_rule m f)))))))))))

      func_valid : MeetsFuncRulesBelow 19 m f → IsValidFunc m f
      func_valid below = valid_func m f (λ s q lt b. below s q (omega (arith, lt)) b) (λ p b. below Assignment p (omega arith) b)

    -- ---- one function after another

    abbrev FaultAt : Type 0
    FaultAt = (at : ℕ) × (f : Func) × (r : FuncRule) × (p : Place) × IsFuncFault m at f r p

    abbrev ValidTo : ℕ → Type 0
    ValidTo n = (i : ℕ) (g : Func) → i < n → slice_get m.funcs i ≡ Some g → IsValidFunc m g

    one_on : (n : ℕ) → n + 1 ≡ suc n
    one_on n = omega arith

    next_func : (n : ℕ) (f : Func) → slice_get m.funcs n ≡ Some f → ValidTo n ⊎ FaultAt → ValidTo (suc n) ⊎ FaultAt
    next_func n f here (inr fault) = inr fault
    next_func n f here (inl valid) = by_func (of_func n f here)
      where
        by_func : FuncUpTo n f here 19 → ValidTo (suc n) ⊎ FaultAt
        by_func (inl met) = inl (subst ValidTo (one_on n) (one_more_func m n f valid here (func_valid n f here met)))
        by_func (inr fault) = inr (n, f, fault.0, fault.1, record { here = here; place = fault.2.place; lower = fault.2.lower; own = own; before = valid })

    funcs_to : (n : ℕ) → n ≤ length m.funcs → ValidTo n ⊎ FaultAt
    funcs_to zero le = inl (λ i g lt. absurd (omega (arith, lt)))
    funcs_to (suc n) le = let f = element m.funcs n (omega (arith, le)) in next_func n f.0 f.1 (funcs_to n (omega (arith, le)))

  -- ---- the whole module

  abbrev Verdict : Type 0
  Verdict = IsValid m ⊎ ((number : ℕ) × (p : Place) × IsFirstBroken m number p)

  pub verdict : Verdict
  verdict = by_module of_module
    where
      by_funcs : (own : MeetsModuleRules m) → ValidTo own (length m.funcs) ⊎ FaultAt own → Verdict
      by_funcs own (inl valid) = inl (is_valid m own (λ i g at. valid i g (slice_get_within m.funcs i g at) at))
      by_funcs own (inr fault) = inr (func_rule fault.2, fault.3, inr (fault.0, fault.1, fault.2, refl, fault.4))

      by_module : ModuleUpTo 9 → Verdict
      by_module (inl met) = let own = all_module_rules m met in by_funcs own (funcs_to own (length m.funcs) (omega arith))
      by_module (inr fault) = inr (module_rule fault.0, fault.1, inl (fault.0, refl, fault.2))
