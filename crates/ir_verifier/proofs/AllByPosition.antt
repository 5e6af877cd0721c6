-- A loop that takes the elements of a list by position, until one fails a test.
use Rattle.std.proofs.Common.{◌≡◌, ℕ, ◌+◌, ◌-◌, ◌<◌, Bool, true, false, ◌&&◌, List, length, drop, Some, None, slice_get, refl, sym, ap, ◌∙◌, arith}
use Rattle.std.specs.List.{list_all}
use Rattle.std.proofs.lemmas.Option.{slice_get_within}
use Rattle.ir_core.proofs.ByPosition.{drop_next, drop_all}

pub nearer : {A : Type 0} (xs : List A) (k : ℕ) (x : A) → slice_get xs k ≡ Some x → length xs - (k + 1) < length xs - k
nearer xs k x e = let w = slice_get_within xs k x e in omega (arith, w)

module _ {A : Type 0} (f : A → Bool) (xs : List A) (k : ℕ) (all : Bool) where
  here : (x : A) → slice_get xs k ≡ Some x → list_all f (drop k xs) ≡ (f x && list_all f (drop (k + 1) xs))
  here x e = ap (list_all f) (drop_next xs k (k + 1) x refl e)

  -- it passes
  pub all_next : (x : A) → slice_get xs k ≡ Some x → f x ≡ true → list_all f (drop k xs) ≡ all → list_all f (drop (k + 1) xs) ≡ all
  all_next x e t before = sym (here x e ∙ ap (λ b. b && list_all f (drop (k + 1) xs)) t) ∙ before

  -- it fails
  pub all_fails : (x : A) → slice_get xs k ≡ Some x → f x ≡ false → list_all f (drop k xs) ≡ all → false ≡ all
  all_fails x e t before = sym (here x e ∙ ap (λ b. b && list_all f (drop (k + 1) xs)) t) ∙ before

  -- none is left
  pub all_pass : slice_get xs k ≡ None → list_all f (drop k xs) ≡ all → true ≡ all
  all_pass e before = sym (ap (list_all f) (drop_all xs k e)) ∙ before
