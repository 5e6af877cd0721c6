-- Rules of globals and of what stands in functions, from tests that decide them.
use Rattle.std.proofs.Common.{◌≡◌, ◌⊎◌, inl, inr, refl, sym, ap, ◌∙◌, subst, ⊎_elim, Bool, true, false, ◌||◌, List, [], ◌∷◌, ◌++◌, None, Contains}
use Rattle.std.specs.List.{flat_map, list_any}
use Rattle.std.specs.Bool.{Decides}
use Rattle.std.proofs.lemmas.Grind.{flat_map-append}
use Rattle.oi_base.specs.declared.ids.Place.{Place}
use Rattle.ir_core.proofs.Lists.{Has, has_left, has_right, has_part, contains}
use Rattle.module_rules.specs.First.{earliest, IsFound}
use Rattle.module_rules.proofs.Decided.{false_is_not_true}
use Rattle.module_rules.proofs.Earliest.{found}
use Rattle.module_rules.proofs.Faulty.{has, has_in, places, has_fault, fault_has}
use Rattle.module_rules.proofs.Sets.{has_made}

-- ---- one of some elements is so

pub some_passes : {A : Type 0} (test : A → Bool) (xs : List A) → list_any test xs ≡ true → (x : A) × Has xs x × (test x ≡ true)
some_passes test [] e = absurd (false_is_not_true e)
some_passes {A} test (x ∷ xs) e = by_test (test x) refl e (some_passes test xs)
  where
    by_test : (t : Bool) → test x ≡ t → (t || list_any test xs) ≡ true → (list_any test xs ≡ true → (y : A) × Has xs y × (test y ≡ true)) → (y : A) × Has (x ∷ xs) y × (test y ≡ true)
    by_test true t g rest = (x, inl refl, t)
    by_test false t g rest = let r = rest g in (r.0, inr r.1, r.2)

pub one_passes : {A : Type 0} (test : A → Bool) (xs : List A) (x : A) → Has xs x → test x ≡ true → list_any test xs ≡ true
one_passes test [] x h e = absurd h
one_passes {A} test (y ∷ ys) x h e = by_test (test y) refl h (λ k. one_passes test ys x k e)
  where
    by_test : (t : Bool) → test y ≡ t → (y ≡ x) ⊎ Has ys x → (Has ys x → list_any test ys ≡ true) → (t || list_any test ys) ≡ true
    by_test true t k rest = refl
    by_test false t (inl same) rest = absurd (false_is_not_true (sym t ∙ ap test same ∙ e))
    by_test false t (inr k) rest = rest k

pub some_decides : {A : Type 0} (test : A → Bool) (Is : A → Type 0) (xs : List A) → ((x : A) → Has xs x → Decides (test x) (Is x)) → Decides (list_any test xs) ((x : A) × Contains xs x × Is x)
some_decides test Is xs d =
    (λ e. let r = some_passes test xs e in (r.0, contains xs r.0 r.1, (d r.0 r.1).0 r.2), λ h. let k = has xs h.0 h.1 in one_passes test xs h.0 k ((d h.0 k).1 h.2))

-- ---- places

-- the places of elements at which something is so
module _ {A : Type 0} (bad : A → Bool) (place : A → Place) (Is : A → Type 0) (xs : List A) (decides : (x : A) → Has xs x → Decides (bad x) (Is x)) where
  pub at_sound : (p : Place) → Has (places bad place xs) p → (x : A) × Contains xs x × (place x ≡ p) × Is x
  at_sound p h = let r = fault_has bad place xs p h in (r.0, contains xs r.0 r.1, r.2, (decides r.0 r.1).0 r.3)

  pub at_complete : (p : Place) → ((x : A) × Contains xs x × (place x ≡ p) × Is x) → Has (places bad place xs) p
  at_complete p a = let h = has xs a.0 a.1 in subst (Has (places bad place xs)) a.2 (has_fault bad place xs a.0 h ((decides a.0 h).1 a.3))

-- a list made of lists that are made of lists
pub made_twice : {A B C : Type 0} (g : B → List C) (h : A → List B) (xs : List A) → flat_map g (flat_map h xs) ≡ flat_map (λ (x : A). flat_map g (h x)) xs
made_twice g h [] = refl
made_twice g h (x ∷ xs) = flat_map-append g (h x) (flat_map h xs) ∙ ap (λ cs. flat_map g (h x) ++ cs) (made_twice g h xs)

-- some places, and those of each element of a list
module _ {A : Type 0} (P : Place → Type 0) (ps : List Place) (Q : A → Place → Type 0) (places_of : A → List Place) (xs : List A) where
  pub found_in_parts : ((p : Place) → Has ps p → P p) → ((p : Place) → P p → Has ps p) → ((x : A) → Has xs x → (p : Place) → Has (places_of x) p → Q x p) → ((x : A) → Has xs x → (p : Place) → Q x p → Has (places_of x) p)
      → IsFound (λ (p : Place). P p ⊎ ((x : A) × Contains xs x × Q x p)) (earliest None (ps ++ flat_map places_of xs))
  found_in_parts p_sound p_complete q_sound q_complete = found (λ (p : Place). P p ⊎ ((x : A) × Contains xs x × Q x p)) (ps ++ flat_map places_of xs) sound complete
    where
      of_part : (p : Place) → Has (flat_map places_of xs) p → (x : A) × Contains xs x × Q x p
      of_part p h = let r = has_made places_of xs p h in (r.0, contains xs r.0 r.1, q_sound r.0 r.1 p r.2)

      sound : (p : Place) → Has (ps ++ flat_map places_of xs) p → P p ⊎ ((x : A) × Contains xs x × Q x p)
      sound p h = ⊎_elim (λ g. inl (p_sound p g)) (λ g. inr (of_part p g)) (has_in ps (flat_map places_of xs) p h)

      complete : (p : Place) → P p ⊎ ((x : A) × Contains xs x × Q x p) → Has (ps ++ flat_map places_of xs) p
      complete p (inl a) = has_left ps (flat_map places_of xs) p (p_complete p a)
      complete p (inr (x, c, q)) = has_right ps (flat_map places_of xs) p (let h = has xs x c in has_part places_of xs x p h (q_complete x h p q))
