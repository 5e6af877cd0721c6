-- What holds of the elements that a loop has seen.
use Rattle.std.proofs.Common.{◌≡◌, ⊎_elim, ℕ, ◌+◌, ◌<◌, List, length, Some, slice_index_or, sym, ◌∙◌, subst, arith}
use Rattle.std.proofs.lemmas.Bool.{cases_lt}
use Rattle.std.proofs.lemmas.Option.{slice_get-get_or}

any_default : {A : Type 0} (xs : List A) (n : ℕ) (x d : A) → n < length xs → slice_index_or xs n x ≡ slice_index_or xs n d
any_default xs n x d lt = let both : Some (slice_index_or xs n x) ≡ Some (slice_index_or xs n d) = sym (slice_get-get_or xs n x lt) ∙ slice_get-get_or xs n d lt in cc

-- one more element
pub one_more : {A : Type 0} (P : A → Type 0) (xs : List A) (n : ℕ) (x : A) → n < length xs → x ≡ slice_index_or xs n x → ((k : ℕ) (d : A) → k < n → P (slice_index_or xs k d)) → P x → (k : ℕ) (d : A) → k < n + 1 → P (slice_index_or xs k d)
one_more P xs n x lt is each p k d le = ⊎_elim
    (λ l. each k d l)
    (λ ge. let same : k ≡ n = omega (arith, le, ge) in subst (λ (j : ℕ). P (slice_index_or xs j d)) (sym same) (subst P (is ∙ any_default xs n x d lt) p))
    (cases_lt k n)
