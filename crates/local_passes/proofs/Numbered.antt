-- Lists whose elements are replaced one after another, each by its number.
use Rattle.std.proofs.Common.{◌≡◌, ℕ, zero, suc, ◌+◌, ◌<◌, List, [], ◌∷◌, ◌++◌, map, length, take, drop, Some, None, slice_get, slice_set, refl, sym, ap, ap₂, ◌∙◌, arith, add-one}
use Rattle.std.proofs.lemmas.List.{append-nil}
use Rattle.flow_fold.specs.Blocks.{by_number}

next_is : {A : Type 0} (f : ℕ → A → A) (n : ℕ) (xs : List A) (k : ℕ) → slice_get (by_number f n (take k xs) ++ drop k xs) k ≡ slice_get xs k
next_is f n [] zero = refl
next_is f n [] (suc k) = refl
next_is f n (y ∷ ys) zero = refl
next_is f n (y ∷ ys) (suc k) = next_is f (suc n) ys k

next_set : {A : Type 0} (f : ℕ → A → A) (n : ℕ) (xs : List A) (k m : ℕ) (x : A) → m ≡ n + k → slice_get xs k ≡ Some x
    → slice_set (by_number f n (take k xs) ++ drop k xs) k (f m x) ≡ by_number f n (take (suc k) xs) ++ drop (suc k) xs
next_set f n [] k m x h e = absurd cc
next_set f n (y ∷ ys) zero m x h e = let same : x ≡ y = cc in let at : m ≡ n = omega (arith, h) in ap₂ (λ a b. f a b ∷ ys) at same
next_set f n (y ∷ ys) (suc k) m x h e = ap (λ zs. f n y ∷ zs) (next_set f (suc n) ys k m x (omega (arith, h)) e)

-- what stands at the next place
pub numbered_at : {A : Type 0} (f : ℕ → A → A) (xs ys : List A) (k : ℕ) (x : A) → ys ≡ by_number f 0 (take k xs) ++ drop k xs → Some x ≡ slice_get ys k → slice_get xs k ≡ Some x
numbered_at f xs ys k x so_far here = sym (next_is f 0 xs k) ∙ ap (λ l. slice_get l k) (sym so_far) ∙ sym here

-- it is replaced
pub numbered_next : {A : Type 0} (f : ℕ → A → A) (xs ys zs : List A) (k : ℕ) (x y : A) → ys ≡ by_number f 0 (take k xs) ++ drop k xs → Some x ≡ slice_get ys k → y ≡ f k x → zs ≡ slice_set ys k y
    → zs ≡ by_number f 0 (take (k + 1) xs) ++ drop (k + 1) xs
numbered_next f xs ys zs k x y so_far here now put =
    rw add-one (put ∙ ap (slice_set ys k) now ∙ ap (λ l. slice_set l k (f k x)) so_far ∙ next_set f 0 xs k k x (omega arith) (numbered_at f xs ys k x so_far here))

none_left : {A : Type 0} (xs : List A) (k : ℕ) → k < length xs → None ≡ slice_get xs k → ⊥
none_left [] k lt e = absurd (omega (arith, lt))
none_left (y ∷ ys) zero lt e = let none : None ≡ Some y = e in cc
none_left (y ∷ ys) (suc k) lt e = none_left ys k (omega (arith, lt)) e

-- as long as the list has a next element it is found
pub numbered_has : {A : Type 0} (f : ℕ → A → A) (xs ys : List A) (k n : ℕ) → ys ≡ by_number f 0 (take k xs) ++ drop k xs → k < n → n ≡ length xs → None ≡ slice_get ys k → ⊥
numbered_has f xs ys k n so_far lt e none = none_left xs k (omega (arith, lt, e)) (none ∙ ap (λ l. slice_get l k) so_far ∙ next_is f 0 xs k)

-- at the end all elements are replaced
all_taken : {A : Type 0} (xs : List A) (k : ℕ) → k ≡ length xs → take k xs ≡ xs
all_taken [] zero e = refl
all_taken [] (suc k) e = refl
all_taken (x ∷ xs) zero e = absurd (omega (arith, e))
all_taken (x ∷ xs) (suc k) e = ap (λ ys. x ∷ ys) (all_taken xs k (omega (arith, e)))

all_dropped : {A : Type 0} (xs : List A) (k : ℕ) → k ≡ length xs → drop k xs ≡ []
all_dropped [] zero e = refl
all_dropped [] (suc k) e = refl
all_dropped (x ∷ xs) zero e = absurd (omega (arith, e))
all_dropped (x ∷ xs) (suc k) e = all_dropped xs k (omega (arith, e))

pub numbered_all : {A : Type 0} (f : ℕ → A → A) (xs : List A) (k : ℕ) → k ≡ length xs → by_number f 0 (take k xs) ++ drop k xs ≡ by_number f 0 xs
numbered_all f xs k e = ap₂ (λ a b. by_number f 0 a ++ b) (all_taken xs k e) (all_dropped xs k e) ∙ append-nil (by_number f 0 xs)

pub taken : {A : Type 0} (xs : List A) (k : ℕ) → k ≡ length xs → take k xs ≡ xs
taken xs k e = all_taken xs k e

-- ---- elements by number

pub numbered_from : {A B : Type 0} (f : ℕ → A → B) (m : ℕ) (xs : List A) (n : ℕ) (y : B) → slice_get (by_number f m xs) n ≡ Some y → (x : A) × (slice_get xs n ≡ Some x) × (f (m + n) x ≡ y)
numbered_from f m [] n y e = absurd cc
numbered_from f m (x ∷ xs) zero y e = let same : f m x ≡ y = cc in let none : m + 0 ≡ m = omega arith in (x, refl, ap (λ k. f k x) none ∙ same)
numbered_from f m (x ∷ xs) (suc n) y e = let r = numbered_from f (suc m) xs n y e in let next : m + suc n ≡ suc m + n = omega arith in (r.0, r.1, ap (λ k. f k r.0) next ∙ r.2)

-- from number 0 on
pub numbered_source : {A B : Type 0} (f : ℕ → A → B) (xs : List A) (n : ℕ) (y : B) → slice_get (by_number f 0 xs) n ≡ Some y → (x : A) × (slice_get xs n ≡ Some x) × (f n x ≡ y)
numbered_source f xs n y e = let r = numbered_from f 0 xs n y e in let same : n ≡ 0 + n = omega arith in (r.0, r.1, ap (λ k. f k r.0) same ∙ r.2)

pub numbered_same : {A B : Type 0} (f : ℕ → A → A) (g : A → B) → ((n : ℕ) (x : A) → g (f n x) ≡ g x) → (m : ℕ) (xs : List A) → map g (by_number f m xs) ≡ map g xs
numbered_same f g same m [] = refl
numbered_same f g same m (x ∷ xs) = ap₂ (λ y ys. y ∷ ys) (same m x) (numbered_same f g same (suc m) xs)
