-- What a loop over a list by positions reads and keeps.
use Rattle.std.proofs.Common.{◌≡◌, ℕ, zero, suc, ◌+◌, ◌-◌, ◌<◌, List, [], ◌∷◌, ◌++◌, length, drop, Some, None, slice_get, refl, sym, ap, ◌∙◌, append_assoc, arith}
use Rattle.std.proofs.lemmas.List.{append-nil}
use Rattle.std.proofs.lemmas.Option.{slice_get_within}
use Rattle.ir_core.specs.declared.op.Operand.{Operand}
use Rattle.ir_assigned.specs.declared.uses.Reader.{Reader}
use Rattle.ir_assigned.specs.declared.uses.Use.{Use}
use Rattle.ir_assigned.specs.Uses.{uses_of, uses_in}

drop_at : {A : Type 0} (xs : List A) (k : ℕ) (x : A) → slice_get xs k ≡ Some x → drop k xs ≡ x ∷ drop (suc k) xs
drop_at [] k x e = absurd (let clash : None ≡ Some x = e in cc)
drop_at (y ∷ ys) zero x e = let same : y ≡ x = cc in ap (λ z. z ∷ ys) same
drop_at (y ∷ ys) (suc k) x e = drop_at ys k x e

drop_past : {A : Type 0} (xs : List A) (k : ℕ) → slice_get xs k ≡ None → drop k xs ≡ []
drop_past [] zero e = refl
drop_past [] (suc k) e = refl
drop_past (y ∷ ys) zero e = absurd (let clash : Some y ≡ None = e in cc)
drop_past (y ∷ ys) (suc k) e = drop_past ys k e

pub nearer : {A : Type 0} (xs : List A) (k : ℕ) (x : A) → slice_get xs k ≡ Some x → length xs - (k + 1) < length xs - k
nearer xs k x e = let w = slice_get_within xs k x e in omega (arith, w)

module _ (r : Reader) (vs : List Operand) (k : ℕ) where
  pub read_more : (v : Operand) (all old new : List Use) → slice_get vs k ≡ Some v → new ≡ old ++ uses_of r v → old ++ uses_in r (drop k vs) ≡ all → new ++ uses_in r (drop (k + 1) vs) ≡ all
  read_more v all old new at e before =
      let step : suc k ≡ k + 1 = omega arith in
      let here : drop k vs ≡ v ∷ drop (k + 1) vs = drop_at vs k v at ∙ ap (λ j. v ∷ drop j vs) step in
      ap (λ us. us ++ uses_in r (drop (k + 1) vs)) e ∙ append_assoc old (uses_of r v) (uses_in r (drop (k + 1) vs)) ∙ ap (λ ws. old ++ uses_in r ws) (sym here) ∙ before

  pub read_all : (all us : List Use) → slice_get vs k ≡ None → us ++ uses_in r (drop k vs) ≡ all → us ≡ all
  read_all all us past e = sym (append-nil us) ∙ ap (λ ws. us ++ uses_in r ws) (sym (drop_past vs k past)) ∙ e
