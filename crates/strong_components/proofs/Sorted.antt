-- Lists of edges whose tails ascend.
use Rattle.std.proofs.Common.{◌≡◌, ◌⊎◌, inl, inr, ⊎_elim, ℕ, zero, suc, ◌+◌, ◌≤◌, List, [], ◌∷◌, ◌++◌, length, Some, slice_get, arith}
use Rattle.std.proofs.lemmas.Option.{slice_get_within}
use Rattle.strong_components.specs.declared.edge.Edge.{Edge}
use Rattle.strong_components.specs.Walk.{IsSorted}

pub append_cases : {A : Type 0} (xs ys : List A) (i : ℕ) (y : A) → slice_get (xs ++ ys) i ≡ Some y → (slice_get xs i ≡ Some y) ⊎ ((j : ℕ) × (i ≡ length xs + j) × (slice_get ys j ≡ Some y))
append_cases [] ys i y e = inr (i, omega arith, e)
append_cases (x ∷ xs) ys zero y e = inl e
append_cases (x ∷ xs) ys (suc i) y e = ⊎_elim (λ h. inl h) (λ h. let s = h.1 in inr (h.0, omega (arith, s), h.2)) (append_cases xs ys i y e)

-- two lists one after the other
pub sorted_append : (xs ys : List Edge) → IsSorted xs → IsSorted ys → ((i j : ℕ) (s t : Edge) → slice_get xs i ≡ Some s → slice_get ys j ≡ Some t → s.from ≤ t.from) → IsSorted (xs ++ ys)
sorted_append xs ys first second across i j s t le es et = by_parts (append_cases xs ys i s es) (append_cases xs ys j t et)
  where
    by_parts : (slice_get xs i ≡ Some s) ⊎ ((k : ℕ) × (i ≡ length xs + k) × (slice_get ys k ≡ Some s)) → (slice_get xs j ≡ Some t) ⊎ ((k : ℕ) × (j ≡ length xs + k) × (slice_get ys k ≡ Some t)) → s.from ≤ t.from
    by_parts (inl x) (inl y) = first i j s t le x y
    by_parts (inl x) (inr y) = across i y.0 s t x y.2
    by_parts (inr x) (inl y) = let w = slice_get_within xs j t y in let e = x.1 in absurd (omega (arith, w, e, le))
    by_parts (inr x) (inr y) = let a = x.1 in let b = y.1 in second x.0 y.0 s t (omega (arith, a, b, le)) x.2 y.2
