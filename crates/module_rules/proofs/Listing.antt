-- What loops over lists read and keep.
use Rattle.std.proofs.Common.{◌≡◌, ⊎_elim, ℕ, ◌+◌, ◌<◌, List, length, Some, slice_get, slice_index_or, Contains, refl, sym, ap, ◌∙◌, subst, arith}
use Rattle.std.proofs.lemmas.Bool.{cases_lt}
use Rattle.std.proofs.lemmas.Option.{slice_get_read, slice_get-get_or, slice_get_within, get_or_from_slice_get}

pub one_at : {A : Type 0} (xs : List A) (k : ℕ) (x y : A) → slice_get xs k ≡ Some x → slice_get xs k ≡ Some y → x ≡ y
one_at xs k x y a b = let both : Some x ≡ Some y = sym a ∙ b in cc

pub read_item : {A : Type 0} (items xs : List A) (k : ℕ) (x : A) → items ≡ xs → k < length items → x ≡ slice_index_or items k x → slice_get xs k ≡ Some x
read_item items xs k x same lt is = ap (λ ys. slice_get ys k) (sym same) ∙ slice_get_read items (length items) k x refl lt is

pub contained : {A : Type 0} (xs : List A) (k : ℕ) (x : A) → slice_get xs k ≡ Some x → Contains xs x
contained xs k x e = (k, slice_get_within xs k x e, get_or_from_slice_get xs k x x e)

pub position : {A : Type 0} (xs : List A) (x : A) (h : Contains xs x) → slice_get xs h.0 ≡ Some x
position xs x h = slice_get-get_or xs h.0 x h.1 ∙ ap Some h.2

-- what holds of the first n and of the next holds of one more
pub below_next : {A : Type 0} (P : A → Type 0) (xs : List A) (n : ℕ) (x : A) → slice_get xs n ≡ Some x → ((k : ℕ) (y : A) → k < n → slice_get xs k ≡ Some y → P y) → P x → (k : ℕ) (y : A) → k < n + 1 → slice_get xs k ≡ Some y → P y
below_next P xs n x at each last k y lt h = ⊎_elim
    (λ l. each k y l h)
    (λ ge. let same : k ≡ n = omega (arith, lt, ge) in subst P (one_at xs n x y at (subst (λ j. slice_get xs j ≡ Some y) same h)) last)
    (cases_lt k n)
