-- Lists that are joined, and numbers that stand in one of the parts of a list.
use Rattle.std.proofs.Common.{◌≡◌, ◌≢◌, ◌⊎◌, inl, inr, ⊎_elim, ℕ, zero, suc, ◌+◌, ◌<◌, ◌≤◌, List, [], ◌∷◌, ◌++◌, map, length, Option, Some, None, slice_get, slice_set, refl, sym, ap, ◌∙◌, subst, arith, append_assoc}
use Rattle.std.specs.List.{flat_map, filter_map, cons_option, AllByRecursion as Each}
use Rattle.ir_core.proofs.Lists.{Has, Apart, each_from, each_of, has_at, at_has, has_left, has_right, has_part, apart_left, apart_right, apart_part, apart_across}
use Rattle.ir_safety.proofs.Elements.{in_part}
use Rattle.flow_fold.proofs.DroppedFormed.{apart_joined}

pub set_there : {A : Type 0} (xs : List A) (n : ℕ) (a x : A) → slice_get xs n ≡ Some x → slice_get (slice_set xs n a) n ≡ Some a
set_there [] n a x e = absurd cc
set_there (y ∷ ys) zero a x e = refl
set_there (y ∷ ys) (suc n) a x e = set_there ys n a x e

pub left_place : {A : Type 0} (xs ys : List A) (i : ℕ) (x : A) → slice_get xs i ≡ Some x → slice_get (xs ++ ys) i ≡ Some x
left_place [] ys i x e = absurd cc
left_place (z ∷ zs) ys zero x e = e
left_place (z ∷ zs) ys (suc i) x e = left_place zs ys i x e

pub right_place : {A : Type 0} (xs ys : List A) (j : ℕ) (x : A) → slice_get ys j ≡ Some x → slice_get (xs ++ ys) (length xs + j) ≡ Some x
right_place [] ys j x e = let z : 0 + j ≡ j = omega arith in ap (slice_get ys) z ∙ e
right_place (z ∷ zs) ys j x e = let s : length (z ∷ zs) + j ≡ suc (length zs + j) = omega arith in ap (slice_get (z ∷ (zs ++ ys))) s ∙ right_place zs ys j x e

-- where an element of a joined list stands
pub data Place {A : Type 0} (xs ys : List A) (i : ℕ) (x : A) : Type 0 where
  in_left : slice_get xs i ≡ Some x → Place xs ys i x
  in_right : (j : ℕ) → i ≡ length xs + j → slice_get ys j ≡ Some x → Place xs ys i x

pub place_of : {A : Type 0} (xs ys : List A) (i : ℕ) (x : A) → slice_get (xs ++ ys) i ≡ Some x → Place xs ys i x
place_of [] ys i x e = in_right i (omega arith) e
place_of (z ∷ zs) ys zero x e = in_left e
place_of (z ∷ zs) ys (suc i) x e = later (place_of zs ys i x e)
  where
    later : Place zs ys i x → Place (z ∷ zs) ys (suc i) x
    later (in_left h) = in_left h
    later (in_right j s h) = in_right j (omega (arith, s)) h

pub made_joined : {A : Type 0} (f : A → Option ℕ) (xs ys : List A) → filter_map f (xs ++ ys) ≡ filter_map f xs ++ filter_map f ys
made_joined f [] ys = refl
made_joined f (x ∷ xs) ys = by_first (f x) (made_joined f xs ys)
  where
    by_first : (o : Option ℕ) → filter_map f (xs ++ ys) ≡ filter_map f xs ++ filter_map f ys → cons_option o (filter_map f (xs ++ ys)) ≡ cons_option o (filter_map f xs) ++ filter_map f ys
    by_first None e = e
    by_first (Some y) e = ap (λ zs. y ∷ zs) e

-- ---- parts without a number in common

module _ {A : Type 0} (f : A → List ℕ) where
  pub parts_disjoint : (xs : List A) (i j : ℕ) (x y : A) → Apart (flat_map f xs) → i ≢ j → slice_get xs i ≡ Some x → slice_get xs j ≡ Some y → (r : ℕ) → Has (f x) r → Has (f y) r → ⊥
  parts_disjoint [] i j x y a apart ei ej r hx hy = absurd cc
  parts_disjoint (z ∷ zs) zero zero x y a apart ei ej r hx hy = apart refl
  parts_disjoint (z ∷ zs) zero (suc j) x y a apart ei ej r hx hy =
      let same : z ≡ x = cc in
      each_of (λ s. r ≢ s) (flat_map f zs) r (each_of (λ u. Each (λ s. u ≢ s) (flat_map f zs)) (f z) r (apart_across (f z) (flat_map f zs) a) (subst (λ w. Has (f w) r) (sym same) hx)) (has_part f zs y r (has_at zs j y ej) hy) refl
  parts_disjoint (z ∷ zs) (suc i) zero x y a apart ei ej r hx hy =
      let same : z ≡ y = cc in
      each_of (λ s. r ≢ s) (flat_map f zs) r (each_of (λ u. Each (λ s. u ≢ s) (flat_map f zs)) (f z) r (apart_across (f z) (flat_map f zs) a) (subst (λ w. Has (f w) r) (sym same) hy)) (has_part f zs x r (has_at zs i x ei) hx) refl
  parts_disjoint (z ∷ zs) (suc i) (suc j) x y a apart ei ej r hx hy = parts_disjoint zs i j x y (apart_right (f z) (flat_map f zs) a) (λ e. apart (ap suc e)) ei ej r hx hy

  pub parts_apart : (xs : List A) → ((i : ℕ) (x : A) → slice_get xs i ≡ Some x → Apart (f x)) → ((i j : ℕ) (x y : A) → i ≢ j → slice_get xs i ≡ Some x → slice_get xs j ≡ Some y → (r : ℕ) → Has (f x) r → Has (f y) r → ⊥) → Apart (flat_map f xs)
  parts_apart [] own other = tt
  parts_apart (x ∷ xs) own other = apart_joined (f x) (flat_map f xs) (own 0 x refl)
      (parts_apart xs (λ i y e. own (suc i) y e) (λ i j y z apart ei ej. other (suc i) (suc j) y z (λ e. apart (let s : i ≡ j = omega (arith, e) in s)) ei ej))
      (each_from (λ r. Each (λ s. r ≢ s) (flat_map f xs)) (f x) (λ r in_x. each_from (λ s. r ≢ s) (flat_map f xs) (λ s in_rest same.
      let part = in_part f xs s in_rest in
      let place = at_has xs part.0 part.1 in
      other 0 (suc place.0) x part.0 (λ e. absurd (omega (arith, e))) refl place.1 r in_x (subst (Has (f part.0)) (sym same) part.2))))
