-- Loops that append what is made of some of the elements.
use Rattle.std.proofs.Common.{◌≡◌, ℕ, zero, suc, ◌+◌, ◌<◌, ◌≤◌, List, [], ◌∷◌, ◌++◌, map, length, drop, Option, Some, None, slice_index_or, refl, sym, ap, ◌∙◌, arith}
use Rattle.std.specs.List.{filter_map, cons_option}
use Rattle.std.specs.Option.{option_map}
use Rattle.std.proofs.lemmas.List.{append_assoc, append-nil}
use Rattle.module_rules.proofs.Folds.{cut}

one_more : {B : Type 0} (o : Option B) (old rest : List B) → (old ++ cons_option o []) ++ rest ≡ old ++ cons_option o rest
one_more None old rest = ap (λ xs. xs ++ rest) (append-nil old)
one_more (Some b) old rest = append_assoc old (b ∷ []) rest

pub kept_next : {A B : Type 0} (f : A → Option B) (old new all : List B) (xs ys : List A) (k : ℕ) (x : A) → new ≡ old ++ cons_option (f x) [] → xs ≡ ys → k < length xs → x ≡ slice_index_or xs k x
    → old ++ filter_map f (drop k ys) ≡ all → new ++ filter_map f (drop (k + 1) ys) ≡ all
kept_next f old new all xs ys k x e same within is so_far =
    ap (λ ns. ns ++ filter_map f (drop (k + 1) ys)) e
    ∙ one_more (f x) old (filter_map f (drop (k + 1) ys))
    ∙ ap (λ zs. old ++ filter_map f zs) (sym (cut xs ys k x same within is)) ∙ so_far

pub none_left : {A : Type 0} (xs : List A) (k : ℕ) → length xs ≤ k → drop k xs ≡ []
none_left [] zero h = refl
none_left [] (suc k) h = refl
none_left (x ∷ xs) zero h = absurd (omega (arith, h))
none_left (x ∷ xs) (suc k) h = none_left xs k (omega (arith, h))

one_mapped : {B C : Type 0} (g : B → C) (o : Option B) (xs : List B) → map g (cons_option o xs) ≡ cons_option (option_map g o) (map g xs)
one_mapped g None xs = refl
one_mapped g (Some b) xs = refl

pub kept_mapped : {A B C : Type 0} (g : B → C) (f : A → Option B) (xs : List A) → filter_map (λ (x : A). option_map g (f x)) xs ≡ map g (filter_map f xs)
kept_mapped g f [] = refl
kept_mapped g f (x ∷ xs) = ap (λ ys. cons_option (option_map g (f x)) ys) (kept_mapped g f xs) ∙ sym (one_mapped g (f x) (filter_map f xs))
