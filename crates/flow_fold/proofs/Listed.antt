-- Lists that are made by numbers.
use Rattle.std.proofs.Common.{◌≡◌, ℕ, zero, suc, ◌+◌, List, [], ◌∷◌, map, Some, None, slice_get, refl, ap, ◌∙◌, arith}
use Rattle.flow_fold.specs.Blocks.{by_number}

pub by_number_at : {A B : Type 0} (f : ℕ → A → B) (n : ℕ) (xs : List A) (k : ℕ) (x : A) → slice_get xs k ≡ Some x → slice_get (by_number f n xs) k ≡ Some (f (n + k) x)
by_number_at f n [] k x e = cc
by_number_at f n (y ∷ ys) zero x e = let same : y ≡ x = cc in let zero_more : n ≡ n + 0 = omega arith in ap Some (ap (f n) same ∙ ap (λ m. f m x) zero_more)
by_number_at f n (y ∷ ys) (suc k) x e = let one_more : suc n + k ≡ n + suc k = omega arith in by_number_at f (suc n) ys k x e ∙ ap (λ m. Some (f m x)) one_more

-- numbered from 0
pub numbered_at : {A B : Type 0} (f : ℕ → A → B) (xs : List A) (k : ℕ) (x : A) → slice_get xs k ≡ Some x → slice_get (by_number f 0 xs) k ≡ Some (f k x)
numbered_at f xs k x e = let same : 0 + k ≡ k = omega arith in by_number_at f 0 xs k x e ∙ ap (λ m. Some (f m x)) same

pub map_at : {A B : Type 0} (f : A → B) (xs : List A) (k : ℕ) (x : A) → slice_get xs k ≡ Some x → slice_get (map f xs) k ≡ Some (f x)
map_at f [] k x e = cc
map_at f (y ∷ ys) zero x e = let same : y ≡ x = cc in ap (λ z. Some (f z)) same
map_at f (y ∷ ys) (suc k) x e = map_at f ys k x e

pub map_past : {A B : Type 0} (f : A → B) (xs : List A) (k : ℕ) → slice_get xs k ≡ None → slice_get (map f xs) k ≡ None
map_past f [] k e = refl
map_past f (y ∷ ys) zero e = absurd cc
map_past f (y ∷ ys) (suc k) e = map_past f ys k e
