-- Lists whose elements are taken in order, by popping them from the reversed list.
use Rattle.std.proofs.Common.{◌≡◌, ◌≢◌, ℕ, zero, suc, ◌+◌, List, [], ◌∷◌, ◌++◌, take, drop, Some, slice_get, AllPairs, refl, sym, ap, ◌∙◌, subst, add-one}
use Rattle.std.specs.Prelude.{reverse}
use Rattle.std.specs.List.{flat_map}
use Rattle.std.proofs.lemmas.List.{reverse-append, take-append-drop}
use Rattle.std.proofs.lemmas.Grind.{flat_map-append}
use Rattle.ir_core.proofs.Lists.{apart_left}
use Rattle.flow_fold.proofs.DroppedFormed.{pairs_apart, apart_pairs}

from_drop : {A : Type 0} (xs : List A) (n : ℕ) (x : A) (ys : List A) → drop n xs ≡ x ∷ ys → (slice_get xs n ≡ Some x) × (drop (suc n) xs ≡ ys)
from_drop [] zero x ys e = absurd cc
from_drop [] (suc n) x ys e = absurd cc
from_drop (z ∷ zs) zero x ys e = let same : z ≡ x = cc in let rest : zs ≡ ys = cc in (ap Some same, rest)
from_drop (z ∷ zs) (suc n) x ys e = from_drop zs n x ys e

-- an element was popped
pub popped : {A : Type 0} (xs : List A) (n : ℕ) (left rest : List A) (x : A) → reverse left ≡ drop n xs → left ≡ rest ++ x ∷ [] → (slice_get xs n ≡ Some x) × (drop (n + 1) xs ≡ reverse rest)
popped xs n left rest x so_far was =
    let r = from_drop xs n x (reverse rest) (sym so_far ∙ ap reverse was ∙ reverse-append rest (x ∷ [])) in
    (r.0, rw add-one r.1)

-- there was none left
pub none_popped : {A : Type 0} (xs : List A) (n : ℕ) (left : List A) → reverse left ≡ drop n xs → left ≡ [] → take n xs ≡ xs
none_popped xs n left so_far was =
    let none : drop n xs ≡ [] = sym so_far ∙ ap reverse was in
    all xs n none
  where
    all : {A : Type 0} (xs : List A) (n : ℕ) → drop n xs ≡ [] → take n xs ≡ xs
    all [] zero e = refl
    all [] (suc n) e = refl
    all (x ∷ xs) zero e = absurd cc
    all (x ∷ xs) (suc n) e = ap (λ ys. x ∷ ys) (all xs n e)

-- where no number stands twice in the parts of a list, none does in those of its first elements
pub first_apart : {A : Type 0} (f : A → List ℕ) (xs : List A) (n : ℕ) → AllPairs (λ r s. r ≢ s) (flat_map f xs) → AllPairs (λ r s. r ≢ s) (flat_map f (take n xs))
first_apart f xs n h =
    let whole = ap (flat_map f) (sym (take-append-drop n xs)) ∙ flat_map-append f (take n xs) (drop n xs) in
    pairs_apart (flat_map f (take n xs)) (apart_left (flat_map f (take n xs)) (flat_map f (drop n xs)) (apart_pairs (flat_map f (take n xs) ++ flat_map f (drop n xs)) (subst (AllPairs (λ r s. r ≢ s)) whole h)))
