-- Names of a module: where the rules say so, none stands twice.
use Rattle.std.proofs.Common.{◌≡◌, inl, inr, ℕ, ◌<◌, ◌==◌, Bool, true, false, ◌||◌, List, [], ◌∷◌, Some, slice_get, refl, sym, ap, ◌∙◌, arith}
use Rattle.std.specs.List.{list_any}
use Rattle.std.proofs.lemmas.Bool.Decides.{nat_tests}
use Rattle.oi_base.specs.declared.ids.Place.{Place}
use Rattle.ir_core.specs.declared.module.SymId.{SymId}
use Rattle.ir_core.specs.declared.func.Func.{Func}
use Rattle.ir_core.specs.declared.module.Module.{Module}
use Rattle.ir_core.specs.Operands.{is_up_to}
use Rattle.ir_core.specs.Valid.{IsValid}
use Rattle.ir_core.specs.ValidModule.{Introduced, introduced}
use Rattle.ir_core.proofs.Lists.{Has}

up_to_total : (p q : Place) → is_up_to p q ≡ false → is_up_to q p ≡ true
up_to_total p q h = grind (arith, nat_tests)

pub same_symbol : (a b : SymId) → a.0 ≡ b.0 → a ≡ b
same_symbol a b e = ap (λ (n : ℕ). record { 0 = n }) e

-- one element stands before another
abbrev pub Two : {A : Type 0} → List A → A → A → Type 0
Two xs a b = (i j : ℕ) × (i < j) × (slice_get xs i ≡ Some a) × (slice_get xs j ≡ Some b)

-- no name after `@` is introduced twice
pub introduced_once : (m : Module) → IsValid m → (a b : Introduced) → Two (introduced m) a b → a.name ≡ b.name → ⊥
introduced_once m valid a b two same = by_order (is_up_to a.place b.place) refl
  where
    by_order : (t : Bool) → is_up_to a.place b.place ≡ t → ⊥
    by_order true t = let lt = two.2 in valid.symbol_twice b.place (two.0, two.1, a, b, (λ e. omega (arith, lt, e)), two.3, two.4, same, t, refl)
    by_order false t = let lt = two.2 in valid.symbol_twice a.place (two.1, two.0, b, a, (λ e. omega (arith, lt, e)), two.4, two.3, sym same, up_to_total a.place b.place t, refl)

abbrev pub has_name : SymId → Func → Bool
has_name s f = f.name.0 == s.0

abbrev pub HasFunc : SymId → List Func → Type 0
HasFunc s fs = (f : Func) × Has fs f × (f.name ≡ s)

pub named_func : (s : SymId) (fs : List Func) → list_any (has_name s) fs ≡ true → HasFunc s fs
named_func s [] e = cc
named_func s (f ∷ fs) e = by_test (f.name.0 == s.0) refl (named_func s fs) e
  where
    by_test : (t : Bool) → (f.name.0 == s.0) ≡ t → (list_any (has_name s) fs ≡ true → HasFunc s fs) → (t || list_any (has_name s) fs) ≡ true → HasFunc s (f ∷ fs)
    by_test true t rest h = (f, inl refl, same_symbol f.name s (grind (arith, nat_tests)))
    by_test false t rest h = let r = rest h in (r.0, inr r.1, r.2)

pub named_any : (s : SymId) (fs : List Func) (f : Func) → Has fs f → f.name ≡ s → list_any (has_name s) fs ≡ true
named_any s [] f h e = absurd h
named_any s (g ∷ fs) f (inl same) e =
    let n : g.name.0 ≡ s.0 = ap (λ (x : Func). x.name.0) same ∙ ap (λ (x : SymId). x.0) e in
    let t : (g.name.0 == s.0) ≡ true = grind (arith, nat_tests) in
    ap (λ (b : Bool). b || list_any (has_name s) fs) t
named_any s (g ∷ fs) f (inr h) e = either (g.name.0 == s.0) (list_any (has_name s) fs) (named_any s fs f h e)
  where
    either : (a b : Bool) → b ≡ true → (a || b) ≡ true
    either true b k = refl
    either false b k = k
