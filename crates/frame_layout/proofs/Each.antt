-- What holds of each element of a list.
use Rattle.std.proofs.Common.{◌≡◌, ℕ, zero, suc, List, [], ◌∷◌, ◌++◌, map, Option, Some, None, slice_get, refl}
use Rattle.std.specs.List.{AllByRecursion as Each, flat_map, filter_map, cons_option}
use Rattle.ir_core.proofs.Lists.{each_left, each_right}

pub each_join : {A : Type 0} (P : A → Type 0) (xs ys : List A) → Each P xs → Each P ys → Each P (xs ++ ys)
each_join P [] ys a b = b
each_join P (x ∷ xs) ys a b = (a.0, each_join P xs ys a.1 b)

pub each_flat : {A B : Type 0} (P : B → Type 0) (f : A → List B) (xs : List A) → Each (λ x. Each P (f x)) xs → Each P (flat_map f xs)
each_flat P f [] e = tt
each_flat P f (x ∷ xs) e = each_join P (f x) (flat_map f xs) e.0 (each_flat P f xs e.1)

pub each_of_flat : {A B : Type 0} (P : B → Type 0) (f : A → List B) (xs : List A) → Each P (flat_map f xs) → Each (λ x. Each P (f x)) xs
each_of_flat P f [] e = tt
each_of_flat P f (x ∷ xs) e = (each_left P (f x) (flat_map f xs) e, each_of_flat P f xs (each_right P (f x) (flat_map f xs) e))

pub each_map : {A B : Type 0} (P : B → Type 0) (f : A → B) (xs : List A) → Each (λ x. P (f x)) xs → Each P (map f xs)
each_map P f [] e = tt
each_map P f (x ∷ xs) e = (e.0, each_map P f xs e.1)

pub each_of_map : {A B : Type 0} (P : B → Type 0) (f : A → B) (xs : List A) → Each P (map f xs) → Each (λ x. P (f x)) xs
each_of_map P f [] e = tt
each_of_map P f (x ∷ xs) e = (e.0, each_of_map P f xs e.1)

-- of one or none
abbrev pub OfOption : {A : Type 0} → (A → Type 0) → Option A → Type 0
OfOption P None = Unit {0}
OfOption P (Some x) = P x

each_before : {A : Type 0} (P : A → Type 0) (o : Option A) (xs : List A) → OfOption P o → Each P xs → Each P (cons_option o xs)
each_before P None xs a e = e
each_before P (Some x) xs a e = (a, e)

each_of_before : {A : Type 0} (P : A → Type 0) (o : Option A) (xs : List A) → Each P (cons_option o xs) → OfOption P o × Each P xs
each_of_before P None xs e = (tt, e)
each_of_before P (Some x) xs e = (e.0, e.1)

pub each_filter : {A B : Type 0} (P : B → Type 0) (f : A → Option B) (xs : List A) → Each (λ x. OfOption P (f x)) xs → Each P (filter_map f xs)
each_filter P f [] e = tt
each_filter P f (x ∷ xs) e = each_before P (f x) (filter_map f xs) e.0 (each_filter P f xs e.1)

pub each_of_filter : {A B : Type 0} (P : B → Type 0) (f : A → Option B) (xs : List A) → Each P (filter_map f xs) → Each (λ x. OfOption P (f x)) xs
each_of_filter P f [] e = tt
each_of_filter P f (x ∷ xs) e = let both = each_of_before P (f x) (filter_map f xs) e in (both.0, each_of_filter P f xs both.1)

pub each_both : {A : Type 0} (P Q R : A → Type 0) (xs : List A) → ((x : A) → P x → Q x → R x) → Each P xs → Each Q xs → Each R xs
each_both P Q R [] f a b = tt
each_both P Q R (x ∷ xs) f a b = (f x a.0 b.0, each_both P Q R xs f a.1 b.1)

-- an element for each index
pub each_by_index : {A : Type 0} (P : A → Type 0) (xs : List A) → ((n : ℕ) (x : A) → slice_get xs n ≡ Some x → P x) → Each P xs
each_by_index P [] f = tt
each_by_index P (x ∷ xs) f = (f zero x refl, each_by_index P xs (λ n y e. f (suc n) y e))

pub each_free : {A : Type 0} (P : A → Type 0) (xs : List A) → ((x : A) → P x) → Each P xs
each_free P [] f = tt
each_free P (x ∷ xs) f = (f x, each_free P xs f)
