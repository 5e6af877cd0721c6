-- Loops that take the elements of a list by position, until there is none.
use Rattle.std.proofs.Common.{◌≡◌, ℕ, ◌+◌, suc, zero, List, [], ◌∷◌, ◌++◌, take, drop, Some, None, slice_get, refl, ap, ◌∙◌, drop-cons, arith}
use Rattle.std.proofs.Math.Seq.{take-suc}
use Rattle.std.proofs.lemmas.Option.{slice_get_within, get_or_from_slice_get}

-- an element was there
pub take_next : {A : Type 0} (xs : List A) (k next : ℕ) (x : A) → next ≡ k + 1 → slice_get xs k ≡ Some x → take next xs ≡ take k xs ++ x ∷ []
take_next xs k next x step e =
    let on : next ≡ suc k = omega (arith, step) in
    ap (λ n. take n xs) on ∙ take-suc xs k x (slice_get_within xs k x e) ∙ ap (λ y. take k xs ++ y ∷ []) (get_or_from_slice_get xs k x x e)

pub drop_next : {A : Type 0} (xs : List A) (k next : ℕ) (x : A) → next ≡ k + 1 → slice_get xs k ≡ Some x → drop k xs ≡ x ∷ drop next xs
drop_next xs k next x step e =
    let on : suc k ≡ next = omega (arith, step) in
    drop-cons xs k x (slice_get_within xs k x e) ∙ ap (λ y. y ∷ drop (suc k) xs) (get_or_from_slice_get xs k x x e) ∙ ap (λ n. x ∷ drop n xs) on

-- there is none
pub take_all : {A : Type 0} (xs : List A) (k : ℕ) → slice_get xs k ≡ None → take k xs ≡ xs
take_all [] zero e = refl
take_all [] (suc k) e = refl
take_all (x ∷ xs) zero e = cc
take_all (x ∷ xs) (suc k) e = ap (λ ys. x ∷ ys) (take_all xs k e)

pub drop_all : {A : Type 0} (xs : List A) (k : ℕ) → slice_get xs k ≡ None → drop k xs ≡ []
drop_all [] zero e = refl
drop_all [] (suc k) e = refl
drop_all (x ∷ xs) zero e = cc
drop_all (x ∷ xs) (suc k) e = drop_all xs k e
