-- Lists of numbers: what is in them, rising ones, and filters.
use Rattle.std.proofs.Common.{◌≡◌, ◌≢◌, ℕ, zero, suc, ◌<◌, ◌≤◌, refl, ap, ap₂, ◌∙◌, ⊎_elim, arith, Bool, true, false, ◌&&◌, ◌||◌, nat_eq, List, [], ◌∷◌, length, cond, eq-eqb}
use Rattle.std.specs.Prelude.{slice_index}
use Rattle.std.specs.List.{filter, All}
use Rattle.std.proofs.lemmas.Bool.{or_cases, eqb-true, ne_eqb, false≢true, cases_lt}
use Rattle.std.proofs.lemmas.List.Elements.{All-get_or}
use Rattle.component_split.specs.Graph.{has, Distinct}
use Rattle.component_split.specs.Over.{IsRising}

pub has_head : (f : ℕ) (fs : List ℕ) → has (f ∷ fs) f ≡ true
has_head f fs = let e : nat_eq f f ≡ true = eq-eqb f f refl in rw e refl

pub has_tail : (f q : ℕ) (fs : List ℕ) → has fs q ≡ true → has (f ∷ fs) q ≡ true
has_tail f q fs e = let l : (b : Bool) → (b || true) ≡ true = elim [ true ↦ refl | false ↦ refl ] in rw e (l (nat_eq f q))

-- what stands at a place is in the list
pub has_at : (xs : List ℕ) (i : ℕ) → i < length xs → has xs (slice_index xs i) ≡ true
has_at [] i h = absurd (omega (arith, h))
has_at (x ∷ xs) zero h = has_head x xs
has_at (x ∷ xs) (suc i) h = has_tail x (slice_index xs i) xs (has_at xs i (omega arith))

-- what is in the list stands at a place
pub place_of_has : (xs : List ℕ) (f : ℕ) → has xs f ≡ true → (i : ℕ) × (i < length xs) × (slice_index xs i ≡ f)
place_of_has [] f h = absurd (false≢true h)
place_of_has (x ∷ xs) f h = ⊎_elim (λ e. (0, omega arith, eqb-true x f e)) (λ e. let r = place_of_has xs f e in let l = r.1 in (suc r.0, omega (arith, l), r.2)) (or_cases (nat_eq x f) (has xs f) h)

-- what stands at no place isn't in the list
pub absent_has : (xs : List ℕ) (f : ℕ) → ((i : ℕ) → i < length xs → slice_index xs i ≢ f) → has xs f ≡ false
absent_has [] f h = refl
absent_has (x ∷ xs) f h =
    let e : nat_eq x f ≡ false = ne_eqb x f (h 0 (omega arith)) in
    rw e (absent_has xs f (λ i l. h (suc i) (omega (arith, l))))

-- ---- rising numbers

pub rising_same : (xs : List ℕ) → IsRising xs → (i j : ℕ) → i < length xs → j < length xs → slice_index xs i ≡ slice_index xs j → i ≡ j
rising_same xs r i j li lj e = ⊎_elim (λ l. let h = r i j l lj in absurd (omega (arith, h, e))) (λ l. ⊎_elim (λ k. let h = r j i k li in absurd (omega (arith, h, e))) (λ k. omega (arith, l, k)) (cases_lt j i)) (cases_lt i j)

pub rising_tail : (x : ℕ) (xs : List ℕ) → IsRising (x ∷ xs) → IsRising xs
rising_tail x xs r i j l m = r (suc i) (suc j) (omega arith) (omega arith)

-- a rising number is no lower than its place
pub rising_high : (xs : List ℕ) → IsRising xs → (i : ℕ) → i < length xs → i ≤ slice_index xs i
rising_high xs r zero l = omega arith
rising_high xs r (suc i) l =
    let a = rising_high xs r i (omega arith) in
    let b = r i (suc i) (omega arith) l in
    omega (arith, a, b)

low_head : (x : ℕ) (xs : List ℕ) → IsRising (x ∷ xs) → (f : ℕ) → has xs f ≡ true → x < f
low_head x xs r f h = let at = place_of_has xs f h in let l = at.1 in let b = r 0 (suc at.0) (omega arith) (omega (arith, l)) in let e = at.2 in omega (arith, b, e)

pub rising_distinct : (xs : List ℕ) → IsRising xs → Distinct xs
rising_distinct [] r = tt
rising_distinct (x ∷ xs) r = (not_in (has xs x) refl, rising_distinct xs (rising_tail x xs r))
  where
    not_in : (b : Bool) → has xs x ≡ b → has xs x ≡ false
    not_in true e = let l = low_head x xs r x e in absurd (omega (arith, l))
    not_in false e = e

pub rising_cons : (x : ℕ) (xs : List ℕ) → IsRising xs → ((i : ℕ) → i < length xs → x < slice_index xs i) → IsRising (x ∷ xs)
rising_cons x xs r h zero zero l m = absurd (omega arith)
rising_cons x xs r h zero (suc j) l m = h j (omega (arith, m))
rising_cons x xs r h (suc i) zero l m = absurd (omega arith)
rising_cons x xs r h (suc i) (suc j) l m = r i j (omega arith) (omega (arith, m))

-- rising numbers below n are no more than n
pub rising_short : (xs : List ℕ) (n : ℕ) → IsRising xs → All (λ f. f < n) xs → length xs ≤ n
rising_short [] n r h = omega arith
rising_short (x ∷ xs) n r h =
    let a = rising_high (x ∷ xs) r (length xs) (omega arith) in
    let b = All-get_or (λ f. f < n) (x ∷ xs) (length xs) 0 (omega arith) h in
    omega (arith, a, b)

-- ---- filters

pub filter_same : (P Q : ℕ → Bool) → (xs : List ℕ) → ((x : ℕ) → has xs x ≡ true → P x ≡ Q x) → filter P xs ≡ filter Q xs
filter_same P Q [] h = refl
filter_same P Q (x ∷ xs) h = ap₂ (λ b (ys : List ℕ). cond b (x ∷ ys) ys) (h x (has_head x xs)) (filter_same P Q xs (λ y e. h y (has_tail x y xs e)))

filter_at : (P Q : ℕ → Bool) (x : ℕ) (xs : List ℕ) (b : Bool) → P x ≡ b → filter Q (filter P xs) ≡ filter (λ y. P y && Q y) xs → filter Q (cond b (x ∷ filter P xs) (filter P xs)) ≡ cond (b && Q x) (x ∷ filter (λ y. P y && Q y) xs) (filter (λ y. P y && Q y) xs)
filter_at P Q x xs true e h = ap (λ (ys : List ℕ). cond (Q x) (x ∷ ys) ys) h
filter_at P Q x xs false e h = h

-- two filters, one after the other
pub filter_filter : (P Q : ℕ → Bool) (xs : List ℕ) → filter Q (filter P xs) ≡ filter (λ y. P y && Q y) xs
filter_filter P Q [] = refl
filter_filter P Q (x ∷ xs) = filter_at P Q x xs (P x) refl (filter_filter P Q xs) ∙ refl

pub filter_short : (Q : ℕ → Bool) (xs : List ℕ) → length (filter Q xs) ≤ length xs
filter_short Q [] = omega arith
filter_short Q (x ∷ xs) = one (Q x) (filter_short Q xs)
  where
    one : (b : Bool) → length (filter Q xs) ≤ length xs → length (cond b (x ∷ filter Q xs) (filter Q xs)) ≤ length (x ∷ xs)
    one true h = omega arith
    one false h = omega arith
