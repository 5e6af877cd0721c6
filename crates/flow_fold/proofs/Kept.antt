-- Blocks that are left, under their new numbers.
use Rattle.std.proofs.Common.{◌≡◌, ◌≢◌, ⊎_elim, ℕ, zero, suc, ◌+◌, ◌-◌, ◌<◌, ◌≤◌, Bool, true, false, if◌then◌else◌, List, [], ◌∷◌, Some, None, slice_get, refl, sym, ap, ◌∙◌, subst, arith}
use Rattle.std.proofs.lemmas.Bool.{cases_lt}
use Rattle.flow_fold.specs.Blocks.{kept_from, one_if, number_of}

-- ---- numbers

module _ (keep : ℕ → Bool) where
  number_next : (b : ℕ) → keep b ≡ true → number_of keep (suc b) ≡ number_of keep b + 1
  number_next b e = ap (λ t. number_of keep b + one_if t) e

  grows : (b c : ℕ) → number_of keep b ≤ number_of keep (b + c)
  grows b zero = let same : b ≡ b + 0 = omega arith in subst (λ n. number_of keep b ≤ number_of keep n) same (omega arith)
  grows b (suc c) =
      let rest = grows b c in
      let same : suc (b + c) ≡ b + suc c = omega arith in
      subst (λ n. number_of keep b ≤ number_of keep n) same (omega (arith, rest))

  less : (a b : ℕ) → keep a ≡ true → a < b → number_of keep a < number_of keep b
  less a b e lt =
      let same : suc a + (b - suc a) ≡ b = omega (arith, lt) in
      let far = subst (λ n. number_of keep (suc a) ≤ number_of keep n) same (grows (suc a) (b - suc a)) in
      let next = number_next a e in
      omega (arith, far, next)

  pub one_number : (a b : ℕ) → keep a ≡ true → keep b ≡ true → number_of keep a ≡ number_of keep b → a ≡ b
  one_number a b ea eb same = ⊎_elim
      (λ lt. let l = less a b ea lt in absurd (omega (arith, l, same)))
      (λ le. ⊎_elim (λ lt. let l = less b a eb lt in absurd (omega (arith, l, same))) (λ ge. omega (arith, le, ge)) (cases_lt b a))
      (cases_lt a b)

-- counted from the front, where the first number is n
abbrev number_from : (ℕ → Bool) → ℕ → ℕ → ℕ
number_from keep n zero = 0
number_from keep n (suc b) = one_if (keep n) + number_from keep (suc n) b

from_last : (keep : ℕ → Bool) (n b : ℕ) → number_from keep n (suc b) ≡ number_from keep n b + one_if (keep (n + b))
from_last keep n zero = let same : n ≡ n + 0 = omega arith in let e : one_if (keep n) ≡ one_if (keep (n + 0)) = ap (λ m. one_if (keep m)) same in omega (arith, e)
from_last keep n (suc b) =
    let rest = from_last keep (suc n) b in
    let same : suc n + b ≡ n + suc b = omega arith in
    let e : one_if (keep (suc n + b)) ≡ one_if (keep (n + suc b)) = ap (λ m. one_if (keep m)) same in
    omega (arith, rest, e)

from_front : (keep : ℕ → Bool) (b : ℕ) → number_from keep 0 b ≡ number_of keep b
from_front keep zero = refl
from_front keep (suc b) =
    let last = from_last keep 0 b in
    let same : 0 + b ≡ b = omega arith in
    let e : one_if (keep (0 + b)) ≡ one_if (keep b) = ap (λ m. one_if (keep m)) same in
    let rest = from_front keep b in
    omega (arith, last, e, rest)

kept_by : {A : Type 0} (keep : ℕ → Bool) (n : ℕ) (xs : List A) (b : ℕ) (x : A) → slice_get xs b ≡ Some x → keep (n + b) ≡ true → slice_get (kept_from keep n xs) (number_from keep n b) ≡ Some x
kept_by keep n [] b x e k = cc
kept_by keep n (y ∷ ys) zero x e k =
    let same : n + 0 ≡ n = omega arith in
    ap (λ t. slice_get (if t then y ∷ kept_from keep (suc n) ys else kept_from keep (suc n) ys) 0) (sym (ap keep same) ∙ k) ∙ e
kept_by keep n (y ∷ ys) (suc b) x e k = by_test (keep n) (kept_by keep (suc n) ys b x e (ap keep same ∙ k))
  where
    same : suc n + b ≡ n + suc b
    same = omega arith

    by_test : (t : Bool) → slice_get (kept_from keep (suc n) ys) (number_from keep (suc n) b) ≡ Some x
        → slice_get (if t then y ∷ kept_from keep (suc n) ys else kept_from keep (suc n) ys) (one_if t + number_from keep (suc n) b) ≡ Some x
    by_test true rest = let next : suc (number_from keep (suc n) b) ≡ 1 + number_from keep (suc n) b = omega arith in subst (λ m. slice_get (y ∷ kept_from keep (suc n) ys) m ≡ Some x) next rest
    by_test false rest = let next : number_from keep (suc n) b ≡ 0 + number_from keep (suc n) b = omega arith in subst (λ m. slice_get (kept_from keep (suc n) ys) m ≡ Some x) next rest

pub kept_at : {A : Type 0} (keep : ℕ → Bool) (xs : List A) (b : ℕ) (x : A) → slice_get xs b ≡ Some x → keep b ≡ true → slice_get (kept_from keep 0 xs) (number_of keep b) ≡ Some x
kept_at keep xs b x e k =
    let same : 0 + b ≡ b = omega arith in
    subst (λ m. slice_get (kept_from keep 0 xs) m ≡ Some x) (from_front keep b) (kept_by keep 0 xs b x e (ap keep same ∙ k))

-- ---- where a block that is left comes from

kept_source : {A : Type 0} (keep : ℕ → Bool) (n : ℕ) (xs : List A) (x : ℕ) (k : A) → slice_get (kept_from keep n xs) x ≡ Some k → (b : ℕ) × (keep (n + b) ≡ true) × (number_from keep n b ≡ x) × (slice_get xs b ≡ Some k)
kept_source keep n [] x k e = absurd cc
kept_source {A} keep n (y ∷ ys) x k e = by_test (keep n) refl x e (λ z f. kept_source keep (suc n) ys z k f)
  where
    by_test : (t : Bool) → keep n ≡ t → (x : ℕ) → slice_get (if t then y ∷ kept_from keep (suc n) ys else kept_from keep (suc n) ys) x ≡ Some k
        → ((z : ℕ) → slice_get (kept_from keep (suc n) ys) z ≡ Some k → (b : ℕ) × (keep (suc n + b) ≡ true) × (number_from keep (suc n) b ≡ z) × (slice_get ys b ≡ Some k))
        → (b : ℕ) × (keep (n + b) ≡ true) × (number_from keep n b ≡ x) × (slice_get (y ∷ ys) b ≡ Some k)
    by_test true t zero e rest = let same : n + 0 ≡ n = omega arith in (0, ap keep same ∙ t, refl, e)
    by_test true t (suc x) e rest =
        let r = rest x e in
        let same : n + suc r.0 ≡ suc n + r.0 = omega arith in
        let count = r.2 in
        let one : one_if (keep n) ≡ 1 = ap one_if t in
        (suc r.0, ap keep same ∙ r.1, omega (arith, count, one), r.3)
    by_test false t x e rest =
        let r = rest x e in
        let same : n + suc r.0 ≡ suc n + r.0 = omega arith in
        let count = r.2 in
        let none : one_if (keep n) ≡ 0 = ap one_if t in
        (suc r.0, ap keep same ∙ r.1, omega (arith, count, none), r.3)

pub kept_back : {A : Type 0} (keep : ℕ → Bool) (xs : List A) (x : ℕ) (k : A) → slice_get (kept_from keep 0 xs) x ≡ Some k → (b : ℕ) × (keep b ≡ true) × (number_of keep b ≡ x) × (slice_get xs b ≡ Some k)
kept_back keep xs x k e =
    let r = kept_source keep 0 xs x k e in
    let same : 0 + r.0 ≡ r.0 = omega arith in
    (r.0, ap keep (sym same) ∙ r.1, sym (from_front keep r.0) ∙ r.2, r.3)
