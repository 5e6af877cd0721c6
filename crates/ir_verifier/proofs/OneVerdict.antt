-- A module has one verdict: it is valid, or it has one first broken rule at one place.
use Rattle.std.proofs.Common.{◌≡◌, ◌⊎◌, inl, inr, ⊎_elim, ℕ, zero, suc, ◌+◌, ◌<◌, ◌≤◌, nat_eq, Bool, true, false, Some, slice_get, refl, sym, ap, ap₂, ◌∙◌, subst, arith}
use Rattle.std.proofs.lemmas.Bool.Decides.{nat_tests}
use Rattle.std.proofs.lemmas.Option.{slice_get-get_or}
use Rattle.std.specs.Prelude.{get_or}
use Rattle.oi_base.specs.declared.ids.Place.{Place}
use Rattle.ir_core.specs.declared.func.Func.{Func}
use Rattle.ir_core.specs.declared.module.Module.{Module}
use Rattle.ir_core.specs.Operands.{is_up_to}
use Rattle.ir_core.specs.Valid.{IsValid, IsValidFunc}
use Rattle.ir_verifier.proofs.VerdictLaws.{module_rule_at, module_rule_back, func_rule_at, func_rule_back}
use Rattle.ir_verifier.proofs.VerdictTold.{at_position, keeps_own, keeps_funcs}
use Rattle.ir_core.specs.declared.rule.ModuleRule.{ModuleRule}
use Rattle.ir_core.specs.declared.rule.ModuleRule.TheVariants.{Main, SymbolTwice, TypeNames, Sizes, Initialisers, Totals, Alignments, Target}
use Rattle.ir_core.specs.declared.rule.FuncRule.{FuncRule}
use Rattle.ir_core.specs.declared.rule.FuncRule.TheVariants.{Names, References, Positions, Entry, Types, Constants, Calls, Phis, Cases, Assignment}
use Rattle.ir_core.specs.FirstBroken.{module_rule, func_rule, BreaksModule, BreaksFunc, IsFirstPlace, IsModuleFault, IsFuncFault, IsFirstBroken}

-- ---- first places

same_place : (p q : Place) → is_up_to p q ≡ true → is_up_to q p ≡ true → p ≡ q
same_place p q h k =
    let line : p.line ≡ q.line = grind (arith, nat_tests) in
    let column : p.column ≡ q.column = grind (arith, nat_tests) in
    ap₂ (λ (l c : ℕ). record { line = l; column = c }) line column

pub one_first : (Breaks : Place → Type 0) (p q : Place) → IsFirstPlace Breaks p → IsFirstPlace Breaks q → p ≡ q
one_first Breaks p q h k = same_place p q (h.first q k.broken) (k.first p h.broken)

-- where no place is the first at which something is so, it is so nowhere
module _ (Breaks : Place → Type 0) (none : (p : Place) → IsFirstPlace Breaks p → ⊥) where
  before : (p q : Place) → is_up_to p q ≡ false → (q.line < p.line) ⊎ ((q.line ≤ p.line) × (q.column < p.column))
  before p q e = by_line (nat_eq q.line p.line) refl
    where
      by_line : (t : Bool) → nat_eq q.line p.line ≡ t → (q.line < p.line) ⊎ ((q.line ≤ p.line) × (q.column < p.column))
      by_line true s = inr (grind (arith, nat_tests), grind (arith, nat_tests))
      by_line false s = inl (grind (arith, nat_tests))

  no_column : (line : ℕ) → ((p : Place) → p.line < line → Breaks p → ⊥) → (column : ℕ) (p : Place) → p.line ≤ line → p.column < column → Breaks p → ⊥
  no_column line above zero p le lt b = omega (arith, lt)
  no_column line above (suc column) p le lt b = none p (record { broken = b; first = λ q c. up_to q c (is_up_to p q) refl (no_column line above column) })
    where
      up_to : (q : Place) → Breaks q → (t : Bool) → is_up_to p q ≡ t → ((r : Place) → r.line ≤ line → r.column < column → Breaks r → ⊥) → is_up_to p q ≡ true
      up_to q c true e left = e
      up_to q c false e left = absurd (⊎_elim (λ l. above q (omega (arith, l, le)) c) (λ s. let n = s.0 in let k = s.1 in left q (omega (arith, n, le)) (omega (arith, k, lt)) c) (before p q e))

  no_line : (line : ℕ) (p : Place) → p.line < line → Breaks p → ⊥
  no_line zero p lt b = omega (arith, lt)
  no_line (suc line) p lt b = no_column line (no_line line) (p.column + 1) p (omega (arith, lt)) (omega arith) b

  pub nowhere_first : (p : Place) → Breaks p → ⊥
  nowhere_first p b = no_line (p.line + 1) p (omega arith) b

-- ---- rules by their numbers

module_rule_same : (r s : ModuleRule) → module_rule r ≡ module_rule s → r ≡ s
module_rule_same r s e = sym (module_rule_back r) ∙ ap module_rule_at e ∙ module_rule_back s

func_rule_same : (r s : FuncRule) → func_rule r ≡ func_rule s → r ≡ s
func_rule_same r s e = sym (func_rule_back r) ∙ ap func_rule_at e ∙ func_rule_back s

-- ---- the rules of either kind, of which none is the first broken one

module _ {R : Type 0} (number : R → ℕ) (Breaks : R → Place → Type 0) (none : (r : R) (p : Place) → IsFirstPlace (Breaks r) p → ((s : R) (q : Place) → number s < number r → Breaks s q → ⊥) → ⊥) where
  none_below : (n : ℕ) (r : R) (p : Place) → number r < n → Breaks r p → ⊥
  none_below zero r p lt b = omega (arith, lt)
  none_below (suc n) r p lt b = nowhere_first (Breaks r) (λ q first. none r q first (λ s t less. none_below n s t (omega (arith, lt, less)))) p b

  all_met : (r : R) (p : Place) → Breaks r p → ⊥
  all_met r p b = none_below (number r + 1) r p (omega arith) b

-- one of them is the first at most
module _ {R : Type 0} (number : R → ℕ) (same : (r s : R) → number r ≡ number s → r ≡ s) (Breaks : R → Place → Type 0) where
  record IsFirstRule (r : R) (p : Place) : Type 0 where
    place : IsFirstPlace (Breaks r) p
    lower : (s : R) (q : Place) → number s < number r → Breaks s q → ⊥

  one_rule : (r s : R) (p q : Place) → IsFirstRule r p → IsFirstRule s q → (r ≡ s) × (p ≡ q)
  one_rule r s p q h k = (rule, one_first (Breaks s) p q (subst (λ (t : R). IsFirstPlace (Breaks t) p) rule h.place) k.place)
    where
      not_less : (t u : R) (x : Place) (y : Place) → IsFirstRule t x → IsFirstRule u y → number t < number u → ⊥
      not_less t u x y f g lt = g.lower t x lt f.place.broken

      least : {i j : ℕ} → (i < j → ⊥) → j ≤ i
      least f = omega (arith, f)

      rule : r ≡ s
      rule =
          let up = least (not_less r s p q h k) in
          let down = least (not_less s r q p k h) in
          same r s (omega (arith, up, down))

-- ---- a valid module has no broken rule

pub broken_not_valid : (m : Module) (number : ℕ) (p : Place) → IsFirstBroken m number p → IsValid m → ⊥
broken_not_valid m number p (inl h) v = keeps_own m h.0 p v h.2.place.broken
broken_not_valid m number p (inr h) v = keeps_funcs m h.1 h.2 p (at_position (IsValidFunc m) m.funcs h.0 h.1 v.each_func h.4.here) h.4.place.broken

-- ---- one rule at one place

first_of_module : (m : Module) (r : ModuleRule) (p : Place) → IsModuleFault m r p → IsFirstRule module_rule module_rule_same (BreaksModule m) r p
first_of_module m r p h = record { place = h.place; lower = h.lower }

first_of_func : (m : Module) (at : ℕ) (f : Func) (r : FuncRule) (p : Place) → IsFuncFault m at f r p → IsFirstRule func_rule func_rule_same (BreaksFunc m f) r p
first_of_func m at f r p h = record { place = h.place; lower = h.lower }

same_func : (m : Module) (i j : ℕ) (f g : Func) (r s : FuncRule) (p q : Place) → IsFuncFault m i f r p → IsFuncFault m j g s q → f ≡ g
same_func m i j f g r s p q h k = some_same (sym h.here ∙ ap (λ n. slice_get m.funcs n) same ∙ k.here)
  where
    not_before : (i j : ℕ) (f g : Func) (r s : FuncRule) (p q : Place) → IsFuncFault m i f r p → IsFuncFault m j g s q → i < j → ⊥
    not_before i j f g r s p q h k lt = keeps_funcs m f r p (k.before i f lt h.here) h.place.broken

    least : {i j : ℕ} → (i < j → ⊥) → j ≤ i
    least f = omega (arith, f)

    same : i ≡ j
    same =
        let up = least (not_before i j f g r s p q h k) in
        let down = least (not_before j i g f s r q p k h) in
        omega (arith, up, down)

    some_same : Some f ≡ Some g → f ≡ g
    some_same e = cc

pub one_first_broken : (m : Module) (k n : ℕ) (p q : Place) → IsFirstBroken m k p → IsFirstBroken m n q → (k ≡ n) × (p ≡ q)
one_first_broken m k n p q (inl h) (inl g) =
    let one = one_rule module_rule module_rule_same (BreaksModule m) h.0 g.0 p q (first_of_module m h.0 p h.2) (first_of_module m g.0 q g.2) in
    (h.1 ∙ ap module_rule one.0 ∙ sym g.1, one.1)
one_first_broken m k n p q (inl h) (inr g) = absurd (g.4.own h.0 p h.2.place.broken)
one_first_broken m k n p q (inr h) (inl g) = absurd (h.4.own g.0 q g.2.place.broken)
one_first_broken m k n p q (inr h) (inr g) =
    let f = same_func m h.0 g.0 h.1 g.1 h.2 g.2 p q h.4 g.4 in
    let first = subst (λ (x : Func). IsFirstRule func_rule func_rule_same (BreaksFunc m x) h.2 p) f (first_of_func m h.0 h.1 h.2 p h.4) in
    let one = one_rule func_rule func_rule_same (BreaksFunc m g.1) h.2 g.2 p q first (first_of_func m g.0 g.1 g.2 q g.4) in
    (h.3 ∙ ap func_rule one.0 ∙ sym g.3, one.1)

-- ---- there is one

module _ (m : Module) (none : (number : ℕ) (p : Place) → IsFirstBroken m number p → ⊥) where
  own : (r : ModuleRule) (p : Place) → BreaksModule m r p → ⊥
  own = all_met module_rule (BreaksModule m) (λ r p place lower. none (module_rule r) p (inl (r, refl, record { place = place; lower = lower })))

  valid_func : (f : Func) → ((r : FuncRule) (p : Place) → BreaksFunc m f r p → ⊥) → IsValidFunc m f
  valid_func f met = record {
    names = λ p b. met Names p b;
    references = λ p b. met References p b;
    positions = λ p b. met Positions p b;
    entry = λ p b. met Entry p b;
    types = λ p b. met Types p b;
    constants = λ p b. met Constants p b;
    calls = λ p b. met Calls p b;
    phis = λ p b. met Phis p b;
    cases = λ p b. met Cases p b;
    assignment = λ p b. met Assignment p b;
  }

  funcs_before : (n i : ℕ) (f : Func) → i < n → slice_get m.funcs i ≡ Some f → IsValidFunc m f
  funcs_before zero i f lt at = absurd (omega (arith, lt))
  funcs_before (suc n) i f lt at =
      valid_func f (all_met func_rule (BreaksFunc m f) (λ r p place lower. none (func_rule r) p (inr (i, f, r, refl, record { here = at; place = place; lower = lower; own = own; before = λ j g less here. funcs_before n j g (omega (arith, less, lt)) here }))))

  pub none_is_valid : IsValid m
  none_is_valid = record {
    main = λ p b. own Main p b;
    symbol_twice = λ p b. own SymbolTwice p b;
    type_names = λ p b. own TypeNames p b;
    sizes = λ p b. own Sizes p b;
    initialisers = λ p b. own Initialisers p b;
    totals = λ p b. own Totals p b;
    alignments = λ p b. own Alignments p b;
    target = λ p b. own Target p b;
    each_func = λ i d lt. funcs_before (i + 1) i (get_or m.funcs i d) (omega arith) (slice_get-get_or m.funcs i d lt);
  }
