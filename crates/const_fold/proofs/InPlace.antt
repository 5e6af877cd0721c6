-- Lists whose elements are replaced one after another.
use Rattle.std.proofs.Common.{◌≡◌, ℕ, zero, suc, ◌+◌, ◌<◌, List, [], ◌∷◌, ◌++◌, map, length, take, drop, Some, None, slice_get, slice_set, sym, ap, ◌∙◌, arith, add-one}

next : {A : Type 0} (f : A → A) (xs : List A) (k : ℕ) (x : A) → slice_get (map f (take k xs) ++ drop k xs) k ≡ Some x
    → slice_set (map f (take k xs) ++ drop k xs) k (f x) ≡ map f (take (suc k) xs) ++ drop (suc k) xs
next f [] zero x e = absurd cc
next f [] (suc k) x e = absurd cc
next f (y ∷ ys) zero x e = let same : y ≡ x = cc in ap (λ z. f z ∷ ys) (sym same)
next f (y ∷ ys) (suc k) x e = ap (λ zs. f y ∷ zs) (next f ys k x e)

-- the next element is replaced
pub replaced_next : {A : Type 0} (f : A → A) (xs ys zs : List A) (k : ℕ) (x y : A) → ys ≡ map f (take k xs) ++ drop k xs → Some x ≡ slice_get ys k → y ≡ f x → zs ≡ slice_set ys k y
    → zs ≡ map f (take (k + 1) xs) ++ drop (k + 1) xs
replaced_next f xs ys zs k x y so_far here now put =
    rw add-one (put ∙ ap (slice_set ys k) now ∙ ap (λ l. slice_set l k (f x)) so_far ∙ next f xs k x (ap (λ l. slice_get l k) (sym so_far) ∙ sym here))

none_left : {A : Type 0} (f : A → A) (xs : List A) (k : ℕ) → k < length xs → None ≡ slice_get (map f (take k xs) ++ drop k xs) k → ⊥
none_left f [] k lt e = absurd (omega (arith, lt))
none_left f (y ∷ ys) zero lt e = let none : None ≡ Some y = e in cc
none_left f (y ∷ ys) (suc k) lt e = none_left f ys k (omega (arith, lt)) e

-- as long as the list has a next element it is found
pub has_next : {A : Type 0} (f : A → A) (xs ys : List A) (k n : ℕ) → ys ≡ map f (take k xs) ++ drop k xs → k < n → n ≡ length xs → None ≡ slice_get ys k → ⊥
has_next f xs ys k n so_far lt e none = none_left f xs k (omega (arith, lt, e)) (none ∙ ap (λ l. slice_get l k) so_far)
