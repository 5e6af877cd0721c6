-- Folds over lists that are made part by part.
use Rattle.std.proofs.Common.{◌≡◌, sym, ap, ◌∙◌, subst, ℕ, suc, ◌+◌, ◌<◌, List, ◌∷◌, ◌++◌, length, slice_index_or, drop, fold, arith}
use Rattle.std.proofs.Math.Seq.{drop-cons}
use Rattle.std.proofs.lemmas.List.Sums.{fold-append}
use Rattle.std.proofs.lemmas.List.{append_assoc}
use Rattle.std.specs.List.{flat_map}

-- an element, and those after it
pub cut : {A : Type 0} (as' bs : List A) (k : ℕ) (a : A) → as' ≡ bs → k < length as' → a ≡ slice_index_or as' k a → drop k bs ≡ a ∷ drop (k + 1) bs
cut as' bs k a same within is =
    subst (λ zs. drop k zs ≡ a ∷ drop (k + 1) zs) same (drop-cons as' k a within ∙ ap (λ z. z ∷ drop (suc k) as') (sym is) ∙ ap (λ (n : ℕ). a ∷ drop n as') next_one)
  where
    next_one : suc k ≡ k + 1
    next_one = omega arith

module _ {S X : Type 0} (add : S → X → S) where
  -- one more part is counted in
  pub fold_next : (s next all : S) (part rest whole : List X) → next ≡ fold add s part → whole ≡ part ++ rest → fold add s whole ≡ all → fold add next rest ≡ all
  fold_next s next all part rest whole e joined so_far =
      ap (λ (t : S). fold add t rest) e ∙ sym (fold-append add s part rest) ∙ ap (λ (xs : List X). fold add s xs) (sym joined) ∙ so_far

  -- one more element of a list, whose part is counted in
  pub fold_step : {A : Type 0} (g : A → List X) (s next all : S) (as' bs : List A) (k : ℕ) (a : A) →
      next ≡ fold add s (g a) → as' ≡ bs → k < length as' → a ≡ slice_index_or as' k a → fold add s (flat_map g (drop k bs)) ≡ all → fold add next (flat_map g (drop (k + 1) bs)) ≡ all
  fold_step g s next all as' bs k a e same within is so_far = fold_next s next all (g a) (flat_map g (drop (k + 1) bs)) (flat_map g (drop k bs)) e (ap (flat_map g) (cut as' bs k a same within is)) so_far

  -- the same before a tail
  pub fold_step_before : {A : Type 0} (tail : List X) (g : A → List X) (s next all : S) (as' bs : List A) (k : ℕ) (a : A) →
      next ≡ fold add s (g a) → as' ≡ bs → k < length as' → a ≡ slice_index_or as' k a → fold add s (flat_map g (drop k bs) ++ tail) ≡ all → fold add next (flat_map g (drop (k + 1) bs) ++ tail) ≡ all
  fold_step_before tail g s next all as' bs k a e same within is so_far =
      fold_next s next all (g a) (flat_map g (drop (k + 1) bs) ++ tail) (flat_map g (drop k bs) ++ tail) e
      (ap (λ cs. flat_map g cs ++ tail) (cut as' bs k a same within is) ∙ append_assoc (g a) (flat_map g (drop (k + 1) bs)) tail) so_far
