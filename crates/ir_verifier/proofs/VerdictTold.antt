-- What a fault of the verifier tells of the module.
use Rattle.std.proofs.Common.{◌≡◌, ◌≢◌, inl, inr, ⊎_elim, ℕ, ◌+◌, ◌<◌, ◌≤◌, refl, sym, ap, ◌∙◌, subst, List, length, Some, slice_get, get_or, All, arith}
use Rattle.std.proofs.lemmas.Option.{slice_get_within, get_or_from_slice_get, slice_get-get_or}
use Rattle.std.proofs.lemmas.Bool.{cases_lt}
use Rattle.oi_base.specs.declared.ids.Place.{Place}
use Rattle.ir_core.specs.declared.module.Module.{Module}
use Rattle.ir_core.specs.declared.func.Func.{Func}
use Rattle.ir_core.specs.Valid.{IsValid, IsValidFunc}
use Rattle.ir_core.specs.declared.rule.ModuleRule.{ModuleRule}
use Rattle.ir_core.specs.declared.rule.ModuleRule.TheVariants.{Main, SymbolTwice, TypeNames, Sizes, Initialisers, Totals, Alignments, Target}
use Rattle.ir_core.specs.declared.rule.FuncRule.{FuncRule}
use Rattle.ir_core.specs.declared.rule.FuncRule.TheVariants.{Names, References, Positions, Entry, Types, Constants, Calls, Phis, Cases, Assignment}
use Rattle.ir_core.specs.FirstBroken.{BreaksModule, BreaksFunc, IsFuncFault, IsFirstBroken}
use Rattle.ir_verifier.specs.declared.fault.RuleFault.{RuleFault}
use Rattle.ir_verifier.specs.declared.fault.RuleFault.TheVariants as faults
use Rattle.ir_verifier.specs.Verdict.{IfRule, IfUnassigned, IsFirstUnassigned, MeetsModuleRules, IsFaultOfModule, IsFaultOfFunc, IsFaultOfFuncs}
use Rattle.ir_verifier.proofs.VerdictLaws.{other_number, module_number}

-- ---- elements by their positions

pub at_position : {A : Type 0} (P : A → Type 0) (xs : List A) (i : ℕ) (x : A) → All P xs → slice_get xs i ≡ Some x → P x
at_position P xs i x all at = subst P (get_or_from_slice_get xs i x x at) (all i x (slice_get_within xs i x at))

pub at_each : {A : Type 0} (P : A → Type 0) (xs : List A) → ((i : ℕ) (x : A) → slice_get xs i ≡ Some x → P x) → All P xs
at_each P xs each i d lt = each i (get_or xs i d) (slice_get-get_or xs i d lt)

pub at_item : {A : Type 0} (xs items : List A) (i : ℕ) (x : A) → items ≡ xs → i < length items → x ≡ get_or items i x → slice_get xs i ≡ Some x
at_item xs items i x same lt is = subst (λ ys. slice_get ys i ≡ Some x) same (slice_get-get_or items i x lt ∙ ap Some (sym is))

-- a loop that has come to the end of the items is past each of them
pub is_past : {A : Type 0} (xs items : List A) (i end : ℕ) (x : A) → items ≡ xs → length items ≤ end → slice_get xs i ≡ Some x → i < end
is_past xs items i end x same le at =
    let lt : i < length xs = slice_get_within xs i x at in
    let l : length items ≡ length xs = ap length same in
    omega (arith, lt, l, le)

-- ---- the functions of a module

-- the functions up to a position are valid, and so is the one there
pub one_more_func : (m : Module) (at : ℕ) (f : Func) → ((i : ℕ) (g : Func) → i < at → slice_get m.funcs i ≡ Some g → IsValidFunc m g) → slice_get m.funcs at ≡ Some f → IsValidFunc m f → (i : ℕ) (g : Func) → i < at + 1 → slice_get m.funcs i ≡ Some g → IsValidFunc m g
one_more_func m at f before here valid i g lt there = ⊎_elim (λ l. before i g l there) (λ le. subst (IsValidFunc m) (same le) valid) (cases_lt i at)
  where
    same : at ≤ i → f ≡ g
    same le = let e : at ≡ i = omega (arith, lt, le) in some_same (sym here ∙ ap (λ k. slice_get m.funcs k) e ∙ there)
      where
        some_same : Some f ≡ Some g → f ≡ g
        some_same e = cc

pub fault_of_funcs : (m : Module) (at : ℕ) (f : Func) (e : RuleFault) → MeetsModuleRules m → ((i : ℕ) (g : Func) → i < at → slice_get m.funcs i ≡ Some g → IsValidFunc m g) → slice_get m.funcs at ≡ Some f → IsFaultOfFunc m f e → IsFaultOfFuncs m e
fault_of_funcs m at f (faults.Rule number p) own before here fault =
    (at, f, fault.0, fault.1, fault.2, record { here = here; place = fault.3.place; lower = fault.3.lower; own = own; before = before })
fault_of_funcs m at f (faults.Unassigned u) own before here fault =
    (at, f, record { here = here; place = fault.0.place; lower = fault.0.lower; own = own; before = before }, fault.1)
fault_of_funcs m at f faults.NoMemory own before here fault = tt

pub is_valid : (m : Module) → MeetsModuleRules m → ((i : ℕ) (g : Func) → slice_get m.funcs i ≡ Some g → IsValidFunc m g) → IsValid m
is_valid m own each = record {
  main = λ p b. own Main p b;
  symbol_twice = λ p b. own SymbolTwice p b;
  type_names = λ p b. own TypeNames p b;
  sizes = λ p b. own Sizes p b;
  initialisers = λ p b. own Initialisers p b;
  totals = λ p b. own Totals p b;
  alignments = λ p b. own Alignments p b;
  target = λ p b. own Target p b;
  each_func = at_each (IsValidFunc m) m.funcs each;
}

-- ---- a valid module has no fault

pub keeps_own : (m : Module) (r : ModuleRule) (p : Place) → IsValid m → BreaksModule m r p → ⊥
keeps_own m Main p v b = v.main p b
keeps_own m SymbolTwice p v b = v.symbol_twice p b
keeps_own m TypeNames p v b = v.type_names p b
keeps_own m Sizes p v b = v.sizes p b
keeps_own m Initialisers p v b = v.initialisers p b
keeps_own m Totals p v b = v.totals p b
keeps_own m Alignments p v b = v.alignments p b
keeps_own m Target p v b = v.target p b

pub keeps_funcs : (m : Module) (f : Func) (r : FuncRule) (p : Place) → IsValidFunc m f → BreaksFunc m f r p → ⊥
keeps_funcs m f Names p v b = v.names p b
keeps_funcs m f References p v b = v.references p b
keeps_funcs m f Positions p v b = v.positions p b
keeps_funcs m f Entry p v b = v.entry p b
keeps_funcs m f Types p v b = v.types p b
keeps_funcs m f Constants p v b = v.constants p b
keeps_funcs m f Calls p v b = v.calls p b
keeps_funcs m f Phis p v b = v.phis p b
keeps_funcs m f Cases p v b = v.cases p b
keeps_funcs m f Assignment p v b = v.assignment p b

not_valid : (m : Module) (at : ℕ) (f : Func) (r : FuncRule) (p : Place) → IsFuncFault m at f r p → IsValid m → ⊥
not_valid m at f r p fault v = keeps_funcs m f r p (at_position (IsValidFunc m) m.funcs at f v.each_func fault.here) fault.place.broken

-- what a fault tells
pub record IsTold (m : Module) (e : RuleFault) : Type 0 where
  pub only : IsValid m → e ≡ faults.NoMemory
  pub rule : IfRule (IsFirstBroken m) e
  pub other : IfRule (λ number p. number ≢ 18) e
  pub assignment : IfUnassigned (λ u. IsFirstBroken m 18 u.place) e
  pub path : IfUnassigned (IsFirstUnassigned m) e

pub told_of_module : (m : Module) (e : RuleFault) → IsFaultOfModule m e → IsTold m e
told_of_module m (faults.Rule number p) fault = record {
  only = λ v. absurd (keeps_own m fault.0 p v fault.2.place.broken);
  rule = inl fault;
  other = module_number fault.0 number fault.1;
  assignment = tt;
  path = tt;
}
told_of_module m (faults.Unassigned u) fault = absurd fault
told_of_module m faults.NoMemory fault = record { only = λ v. refl; rule = tt; other = tt; assignment = tt; path = tt }

pub told_of_funcs : (m : Module) (e : RuleFault) → IsFaultOfFuncs m e → IsTold m e
told_of_funcs m (faults.Rule number p) fault = record {
  only = λ v. absurd (not_valid m fault.0 fault.1 fault.2 p fault.5 v);
  rule = inr (fault.0, fault.1, fault.2, fault.3, fault.5);
  other = other_number fault.2 number fault.3 fault.4;
  assignment = tt;
  path = tt;
}
told_of_funcs m (faults.Unassigned u) fault = record {
  only = λ v. absurd (not_valid m fault.0 fault.1 Assignment u.place fault.2 v);
  rule = tt;
  other = tt;
  assignment = inr (fault.0, fault.1, Assignment, refl, fault.2);
  path = fault;
}
told_of_funcs m faults.NoMemory fault = record { only = λ v. refl; rule = tt; other = tt; assignment = tt; path = tt }
