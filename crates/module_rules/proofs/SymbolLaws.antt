-- The places at which the rule of symbols is broken.
use Rattle.std.proofs.Common.{◌≡◌, ◌≢◌, ◌⊎◌, inl, inr, refl, sym, ap, ◌∙◌, subst, Bool, true, false, if◌then◌else◌, nat_eq, ℕ, List, [], ◌∷◌, ◌++◌, length, map, Option, Some, None, IsTrue, slice_get, arith}
use Rattle.std.specs.Map.{lookup}
use Rattle.std.proofs.lemmas.Bool.Decides.{nat_tests}
use Rattle.std.proofs.lemmas.List.{append_assoc, append-nil}
use Rattle.std.proofs.lemmas.Option.{slice_get_within}
use Rattle.indexmap.specs.IndexMap.{insert_entry}
use Rattle.oi_base.specs.declared.ids.Place.{Place}
use Rattle.ir_core.specs.declared.module.SymId.{SymId}
use Rattle.ir_core.specs.declared.module.Module.{Module}
use Rattle.ir_core.specs.Operands.{is_up_to}
use Rattle.ir_core.specs.ValidModule.{Introduced, introduced_globals, introduced_funcs, BreaksSymbolTwice}
use Rattle.ir_core.proofs.Lists.{Has, has_left, has_right, has_at, at_has}
use Rattle.module_rules.specs.First.{earliest, IsFound}
use Rattle.module_rules.specs.SymbolFaults.{later, again_at, least_with, Symbols, no_symbols, with_symbol, with_symbols, introduced_declared, symbols_of}
use Rattle.module_rules.proofs.Decided.{false_is_not_true}
use Rattle.module_rules.proofs.Earliest.{up_to_itself, up_to_trans, up_to_total, found_more, found_same}
use Rattle.module_rules.proofs.Faulty.{has_in}
use Rattle.module_rules.proofs.Sets.{symbol_of}
use Rattle.module_rules.proofs.Distinct.{at_in_first, at_last, last_at}

-- ---- a table with one more entry

with_entry : (n k : ℕ) (v : Place) (es : List (ℕ × Place)) → lookup (nat_eq n) (insert_entry nat_eq es k v) ≡ (if nat_eq n k then Some v else lookup (nat_eq n) es)
with_entry n k v [] = refl
with_entry n k v (e ∷ es) = by_key (nat_eq k e.0) (nat_eq n k) (nat_eq n e.0) refl refl refl (with_entry n k v es)
  where
    by_key : (t u w : Bool) → nat_eq k e.0 ≡ t → nat_eq n k ≡ u → nat_eq n e.0 ≡ w → lookup (nat_eq n) (insert_entry nat_eq es k v) ≡ (if nat_eq n k then Some v else lookup (nat_eq n) es)
        → lookup (nat_eq n) (if t then ((e.0, v) ∷ es) else (e ∷ insert_entry nat_eq es k v)) ≡ (if nat_eq n k then Some v else (if nat_eq n e.0 then Some e.1 else lookup (nat_eq n) es))
    by_key true true true a b c rest = rw b (rw c refl)
    by_key true false false a b c rest = rw b (rw c refl)
    by_key true true false a b c rest = absurd (grind (arith, nat_tests))
    by_key true false true a b c rest = absurd (grind (arith, nat_tests))
    by_key false true true a b c rest = absurd (grind (arith, nat_tests))
    by_key false true false a b c rest = rw c (rest ∙ rw b refl)
    by_key false false true a b c rest = rw b (rw c refl)
    by_key false false false a b c rest = rw c (rest ∙ rw b refl)

-- ---- what a table and a first place say of the symbols so far

-- the least place of the symbols of a name, or none
abbrev IsLeastOf : ℕ → List Introduced → Option Place → Type 0
IsLeastOf n seen None = (b : Introduced) → Has seen b → b.name.0 ≡ n → ⊥
IsLeastOf n seen (Some q) =
    ((b : Introduced) × Has seen b × (b.name.0 ≡ n) × (b.place ≡ q))
    × ((b : Introduced) → Has seen b → b.name.0 ≡ n → is_up_to q b.place ≡ true)

-- a name is introduced by two of them, and this is the later place
abbrev Twice : List Introduced → Place → Type 0
Twice seen p =
    (i j : ℕ) × (a b : Introduced) × (i ≢ j) × (slice_get seen i ≡ Some a) × (slice_get seen j ≡ Some b)
    × (a.name ≡ b.name) × IsTrue (is_up_to a.place b.place) × (b.place ≡ p)

record Tells (s : Symbols) (seen : List Introduced) : Type 0 where
  least : (n : ℕ) → IsLeastOf n seen (lookup (nat_eq n) s.least)
  first : IsFound (Twice seen) s.first

-- ---- one more symbol

module _ (seen : List Introduced) (a : Introduced) where
  abbrev more : List Introduced
  more = seen ++ a ∷ []

  kept : (p : Place) → Twice seen p → Twice more p
  kept p h = (h.0, h.1, h.2, h.3, h.4, at_in_first seen (a ∷ []) h.0 h.2 h.5, at_in_first seen (a ∷ []) h.1 h.3 h.6, h.7, h.8, h.9)

  -- a pair of the new symbol and one before
  abbrev New : Place → Type 0
  New p = (b : Introduced) × Has seen b × (b.name ≡ a.name) × (((is_up_to b.place a.place ≡ true) × (a.place ≡ p)) ⊎ ((is_up_to a.place b.place ≡ true) × (b.place ≡ p)))

  split : (p : Place) → Twice more p → Twice seen p ⊎ New p
  split p h = by_places (at_last seen a h.2 h.0 h.5) (at_last seen a h.3 h.1 h.6)
    where
      by_places : (slice_get seen h.0 ≡ Some h.2) ⊎ ((h.0 ≡ length seen) × (h.2 ≡ a)) → (slice_get seen h.1 ≡ Some h.3) ⊎ ((h.1 ≡ length seen) × (h.3 ≡ a)) → Twice seen p ⊎ New p
      by_places (inl x) (inl y) = inl (h.0, h.1, h.2, h.3, h.4, x, y, h.7, h.8, h.9)
      by_places (inl x) (inr y) =
          inr (
            h.2,
            has_at seen h.0 h.2 x,
            h.7 ∙ ap (λ (z : Introduced). z.name) y.1,
            inl (subst (λ (z : Introduced). is_up_to h.2.place z.place ≡ true) y.1 h.8, subst (λ (z : Introduced). z.place ≡ p) y.1 h.9),
          )
      by_places (inr x) (inl y) =
          inr (
            h.3,
            has_at seen h.1 h.3 y,
            sym h.7 ∙ ap (λ (z : Introduced). z.name) x.1,
            inr (subst (λ (z : Introduced). is_up_to z.place h.3.place ≡ true) x.1 h.8, h.9),
          )
      by_places (inr x) (inr y) = absurd (h.4 (x.0 ∙ sym y.0))

  differ : (i : ℕ) (b : Introduced) → slice_get seen i ≡ Some b → i ≢ length seen
  differ i b at same = let lt = slice_get_within seen i b at in omega (arith, lt, same)

  made : (b : Introduced) → Has seen b → b.name ≡ a.name → (t : Bool) → is_up_to b.place a.place ≡ t → Twice more (if t then a.place else b.place)
  made b h same t e =
      let at = at_has seen b h in
      by_test t e at.0 at.1
    where
      by_test : (u : Bool) → is_up_to b.place a.place ≡ u → (i : ℕ) → slice_get seen i ≡ Some b → Twice more (if u then a.place else b.place)
      by_test true g i at = (i, length seen, b, a, differ i b at, at_in_first seen (a ∷ []) i b at, last_at seen a, same, g, refl)
      by_test false g i at = (length seen, i, a, b, (λ q. differ i b at (sym q)), last_at seen a, at_in_first seen (a ∷ []) i b at, sym same, up_to_total b.place a.place g, refl)

  later_is : (q : Place) → later q a.place ≡ (if is_up_to q a.place then a.place else q)
  later_is q = refl

  first_more : (o known : Option Place) → IsFound (Twice seen) o → IsLeastOf a.name.0 seen known → IsFound (Twice more) (earliest o (again_at known a.place))
  first_more o None f l = found_same (Twice seen) (Twice more) o f kept (λ p h. old p (split p h))
    where
      old : (p : Place) → Twice seen p ⊎ New p → Twice seen p
      old p (inl h) = h
      old p (inr h) = absurd (l h.0 h.1 (ap (λ (x : SymId). x.0) h.2))
  first_more o (Some q) f l = found_more (Twice seen) (Twice more) o (later q a.place) f kept here (λ p h. after p (split p h))
    where
      here : Twice more (later q a.place)
      here =
          let b = l.0 in
          let same : b.0.name ≡ a.name = symbol_of b.0.name a.name b.2 in
          subst (λ (z : Place). Twice more (if is_up_to z a.place then a.place else z)) b.3 (made b.0 b.1 same (is_up_to b.0.place a.place) refl)

      up_to_new : (p : Place) (t : Bool) → is_up_to q a.place ≡ t → New p → is_up_to (if t then a.place else q) p ≡ true
      up_to_new p true e (b, h, same, inl g) = subst (λ (z : Place). is_up_to a.place z ≡ true) g.1 (up_to_itself a.place)
      up_to_new p true e (b, h, same, inr g) = subst (λ (z : Place). is_up_to a.place z ≡ true) g.1 g.0
      up_to_new p false e (b, h, same, inl g) = absurd (false_is_not_true (sym e ∙ up_to_trans q b.place a.place (l.1 b h (ap (λ (x : SymId). x.0) same)) g.0))
      up_to_new p false e (b, h, same, inr g) = subst (λ (z : Place). is_up_to q z ≡ true) g.1 (l.1 b h (ap (λ (x : SymId). x.0) same))

      after : (p : Place) → Twice seen p ⊎ New p → Twice seen p ⊎ (is_up_to (later q a.place) p ≡ true)
      after p (inl h) = inl h
      after p (inr h) = inr (up_to_new p (is_up_to q a.place) refl h)

  -- the least place of a name with one more symbol
  of_name : (known : Option Place) → IsLeastOf a.name.0 seen known → IsLeastOf a.name.0 more (Some (least_with known a.place))
  of_name None l = ((a, has_right seen (a ∷ []) a (inl refl), refl, refl), λ b h same. by_part b (has_in seen (a ∷ []) b h) same)
    where
      by_part : (b : Introduced) → Has seen b ⊎ Has (a ∷ []) b → b.name.0 ≡ a.name.0 → is_up_to a.place b.place ≡ true
      by_part b (inl h) same = absurd (l b h same)
      by_part b (inr (inl e)) same = subst (λ (z : Introduced). is_up_to a.place z.place ≡ true) e (up_to_itself a.place)
      by_part b (inr (inr h)) same = absurd h
  of_name (Some q) l = by_test (is_up_to q a.place) refl
    where
      of_old : (r : Place) → is_up_to r q ≡ true → is_up_to r a.place ≡ true → (b : Introduced) → Has seen b ⊎ Has (a ∷ []) b → b.name.0 ≡ a.name.0 → is_up_to r b.place ≡ true
      of_old r to_q to_a b (inl h) same = up_to_trans r q b.place to_q (l.1 b h same)
      of_old r to_q to_a b (inr (inl e)) same = subst (λ (z : Introduced). is_up_to r z.place ≡ true) e to_a
      of_old r to_q to_a b (inr (inr h)) same = absurd h

      by_test : (t : Bool) → is_up_to q a.place ≡ t → IsLeastOf a.name.0 more (Some (if t then q else a.place))
      by_test true e = ((l.0.0, has_left seen (a ∷ []) l.0.0 l.0.1, l.0.2, l.0.3), λ b h same. of_old q (up_to_itself q) e b (has_in seen (a ∷ []) b h) same)
      by_test false e = ((a, has_right seen (a ∷ []) a (inl refl), refl, refl), λ b h same. of_old a.place (up_to_total q a.place e) (up_to_itself a.place) b (has_in seen (a ∷ []) b h) same)

  of_other : (n : ℕ) → (n ≡ a.name.0 → ⊥) → (known : Option Place) → IsLeastOf n seen known → IsLeastOf n more known
  of_other n other None l = λ b h same. by_part b (has_in seen (a ∷ []) b h) same
    where
      by_part : (b : Introduced) → Has seen b ⊎ Has (a ∷ []) b → b.name.0 ≡ n → ⊥
      by_part b (inl h) same = l b h same
      by_part b (inr (inl e)) same = other (sym same ∙ sym (ap (λ (z : Introduced). z.name.0) e))
      by_part b (inr (inr h)) same = h
  of_other n other (Some q) l = ((l.0.0, has_left seen (a ∷ []) l.0.0 l.0.1, l.0.2, l.0.3), λ b h same. by_part b (has_in seen (a ∷ []) b h) same)
    where
      by_part : (b : Introduced) → Has seen b ⊎ Has (a ∷ []) b → b.name.0 ≡ n → is_up_to q b.place ≡ true
      by_part b (inl h) same = l.1 b h same
      by_part b (inr (inl e)) same = absurd (other (sym same ∙ sym (ap (λ (z : Introduced). z.name.0) e)))
      by_part b (inr (inr h)) same = absurd h

  tells_more : (s : Symbols) → Tells s seen → Tells (with_symbol s a) more
  tells_more s t = record { least = least; first = first_more s.first (lookup (nat_eq a.name.0) s.least) t.first (t.least a.name.0) }
    where
      least : (n : ℕ) → IsLeastOf n more (lookup (nat_eq n) (with_symbol s a).least)
      least n =
          subst (IsLeastOf n more) (sym (with_entry n a.name.0 (least_with (lookup (nat_eq a.name.0) s.least) a.place) s.least)) (by_test (nat_eq n a.name.0) refl)
        where
          by_test : (t' : Bool) → nat_eq n a.name.0 ≡ t' → IsLeastOf n more (if t' then Some (least_with (lookup (nat_eq a.name.0) s.least) a.place) else lookup (nat_eq n) s.least)
          by_test true e =
              let same : a.name.0 ≡ n = grind (arith, nat_tests) in
              subst (λ (k : ℕ). IsLeastOf k more (Some (least_with (lookup (nat_eq a.name.0) s.least) a.place))) same (of_name (lookup (nat_eq a.name.0) s.least) (t.least a.name.0))
          by_test false e = of_other n (λ q. let clash : nat_eq n a.name.0 ≡ true = grind (arith, nat_tests) in false_is_not_true (sym e ∙ clash)) (lookup (nat_eq n) s.least) (t.least n)

tells_all : (as' seen : List Introduced) (s : Symbols) → Tells s seen → Tells (with_symbols s as') (seen ++ as')
tells_all [] seen s t = subst (Tells s) (sym (append-nil seen)) t
tells_all (a ∷ as') seen s t = subst (Tells (with_symbols s (a ∷ as'))) (append_assoc seen (a ∷ []) as') (tells_all as' (seen ++ a ∷ []) (with_symbol s a) (tells_more seen a s t))

tells_nothing : Tells no_symbols []
tells_nothing = record { least = λ n b h same. h; first = λ p h. let clash : None ≡ Some h.2 = h.5 in none_is_not_some h.2 clash }
  where
    none_is_not_some : (x : Introduced) → None ≡ Some x → ⊥
    none_is_not_some x e = cc

pub symbols_found : (m : Module) → IsFound (BreaksSymbolTwice m) (symbols_of m).first
symbols_found m =
    let g = tells_all (introduced_globals m) [] no_symbols tells_nothing in
    let f = tells_all (introduced_funcs m) (introduced_globals m) (with_symbols no_symbols (introduced_globals m)) g in
    let d = tells_all (introduced_declared m) (introduced_globals m ++ introduced_funcs m) (with_symbols (with_symbols no_symbols (introduced_globals m)) (introduced_funcs m)) f in
    d.first

-- symbols that are added to known ones
pub added : {A : Type 0} (g : A → Introduced) (new old known : Symbols) (items xs : List A) → new ≡ with_symbols old (map g items) → old ≡ known → items ≡ xs → new ≡ with_symbols known (map g xs)
added g new old known items xs e same list = e ∙ ap (λ (s : Symbols). with_symbols s (map g items)) same ∙ ap (λ zs. with_symbols known (map g zs)) list
