-- Sets of numbers that all differ, and where a number stands among them.
use Rattle.std.proofs.Common.{◌≡◌, ◌⊎◌, inl, inr, refl, sym, ap, ◌∙◌, subst, Bool, true, false, not, cond, if◌then◌else◌, nat_eq, nat_lt, ℕ, zero, suc, ◌+◌, ◌<◌, List, [], ◌∷◌, ◌++◌, map, length, Some, None, slice_get, arith}
use Rattle.std.specs.List.{list_any, position, position_or_len}
use Rattle.std.proofs.lemmas.Bool.Decides.{nat_tests}
use Rattle.std.proofs.lemmas.List.{append_assoc, append-nil}
use Rattle.ir_core.proofs.Lists.{Has, at_has}
use Rattle.module_rules.specs.Faults.{with_number, with_numbers, numbers_of}
use Rattle.module_rules.proofs.Faulty.{has_in}
use Rattle.module_rules.proofs.Sets.{number_decides}

-- no number stands at two places
abbrev pub IsDistinct : List ℕ → Type 0
IsDistinct ns = (i j n : ℕ) → slice_get ns i ≡ Some n → slice_get ns j ≡ Some n → i ≡ j

-- none of them stands in the set or twice
abbrev AreNew : List ℕ → List ℕ → Type 0
AreNew set [] = Unit {0}
AreNew set (n ∷ ns) = (Has set n → ⊥) × AreNew (set ++ n ∷ []) ns

with_new : (set : List ℕ) (n : ℕ) → (Has set n → ⊥) → with_number set n ≡ set ++ n ∷ []
with_new set n new = by_test (list_any (nat_eq n) set) refl
  where
    by_test : (t : Bool) → list_any (nat_eq n) set ≡ t → (if t then set else set ++ n ∷ []) ≡ set ++ n ∷ []
    by_test true e = absurd (new ((number_decides n set).0 e))
    by_test false e = refl

all_new : (ns set : List ℕ) → AreNew set ns → with_numbers set ns ≡ set ++ ns
all_new [] set new = sym (append-nil set)
all_new (n ∷ ns) set new = ap (λ (s : List ℕ). with_numbers s ns) (with_new set n new.0) ∙ all_new ns (set ++ n ∷ []) new.1 ∙ append_assoc set (n ∷ []) ns

new_all : (ns set : List ℕ) → IsDistinct ns → ((n : ℕ) → Has set n → Has ns n → ⊥) → AreNew set ns
new_all [] set distinct apart = tt
new_all (n ∷ ns) set distinct apart = (λ h. apart n h (inl refl), new_all ns (set ++ n ∷ []) (λ i j m e g. let s = distinct (suc i) (suc j) m e g in omega (arith, s)) (λ m h g. by_part m (has_in set (n ∷ []) m h) g))
  where
    twice : (m : ℕ) → n ≡ m → Has ns m → ⊥
    twice m same g =
        let at = at_has ns m g in
        let clash = distinct 0 (suc at.0) m (ap Some same) at.1 in
        omega (arith, clash)

    by_part : (m : ℕ) → Has set m ⊎ Has (n ∷ []) m → Has ns m → ⊥
    by_part m (inl h) g = apart m h (inr g)
    by_part m (inr (inl e)) g = twice m e g
    by_part m (inr (inr h)) g = absurd h

pub distinct_numbers : (ns : List ℕ) → IsDistinct ns → numbers_of ns ≡ ns
distinct_numbers ns distinct = all_new ns [] (new_all ns [] distinct (λ n h g. absurd h))

-- ---- where a number stands

first_is : (n : ℕ) (ns : List ℕ) → position_or_len (nat_eq n) ns < length ns → slice_get ns (position_or_len (nat_eq n) ns) ≡ Some n
first_is n [] lt = absurd (omega (arith, lt))
first_is n (m ∷ ms) lt = by_test (nat_eq n m) refl lt (first_is n ms)
  where
    by_test : (t : Bool) → nat_eq n m ≡ t → cond (not t) (1 + position_or_len (nat_eq n) ms) 0 < suc (length ms) → (position_or_len (nat_eq n) ms < length ms → slice_get ms (position_or_len (nat_eq n) ms) ≡ Some n) → slice_get (m ∷ ms) (cond (not t) (1 + position_or_len (nat_eq n) ms) 0) ≡ Some n
    by_test true t l rest = ap Some (let same : m ≡ n = grind (arith, nat_tests) in same)
    by_test false t l rest = subst (λ (k : ℕ). slice_get (m ∷ ms) k ≡ Some n) (let one : suc (position_or_len (nat_eq n) ms) ≡ 1 + position_or_len (nat_eq n) ms = omega arith in one) (rest (omega (arith, l)))

first_within : (n : ℕ) (ns : List ℕ) → Has ns n → position_or_len (nat_eq n) ns < length ns
first_within n [] h = absurd h
first_within n (m ∷ ms) h = by_test (nat_eq n m) refl h (first_within n ms)
  where
    by_test : (t : Bool) → nat_eq n m ≡ t → (m ≡ n) ⊎ Has ms n → (Has ms n → position_or_len (nat_eq n) ms < length ms) → cond (not t) (1 + position_or_len (nat_eq n) ms) 0 < suc (length ms)
    by_test true t g rest = omega arith
    by_test false t (inl e) rest = absurd (grind (arith, nat_tests))
    by_test false t (inr g) rest = let l = rest g in omega (arith, l)

pub position_is : (n : ℕ) (ns : List ℕ) (k : ℕ) → position (nat_eq n) ns ≡ Some k → slice_get ns k ≡ Some n
position_is n ns k e = by_test (nat_lt (position_or_len (nat_eq n) ns) (length ns)) refl e
  where
    by_test : (t : Bool) → nat_lt (position_or_len (nat_eq n) ns) (length ns) ≡ t → cond t (Some (position_or_len (nat_eq n) ns)) None ≡ Some k → slice_get ns k ≡ Some n
    by_test true t g = subst (λ (j : ℕ). slice_get ns j ≡ Some n) (let same : position_or_len (nat_eq n) ns ≡ k = cc in same) (first_is n ns (let lt : position_or_len (nat_eq n) ns < length ns = grind (arith, nat_tests) in lt))
    by_test false t g = absurd (let clash : None ≡ Some k = g in cc)

pub no_position : (n : ℕ) (ns : List ℕ) → position (nat_eq n) ns ≡ None → Has ns n → ⊥
no_position n ns e h = by_test (nat_lt (position_or_len (nat_eq n) ns) (length ns)) refl e
  where
    by_test : (t : Bool) → nat_lt (position_or_len (nat_eq n) ns) (length ns) ≡ t → cond t (Some (position_or_len (nat_eq n) ns)) None ≡ None → ⊥
    by_test true t g = let clash : Some (position_or_len (nat_eq n) ns) ≡ None = g in cc
    by_test false t g = let lt = first_within n ns h in grind (arith, nat_tests)

-- an element of a mapped list
pub map_at : {A : Type 0} (key : A → ℕ) (xs : List A) (k n : ℕ) → slice_get (map key xs) k ≡ Some n → (x : A) × (slice_get xs k ≡ Some x) × (key x ≡ n)
map_at key [] k n e = absurd (let clash : None ≡ Some n = e in cc)
map_at key (x ∷ xs) zero n e = (x, refl, let same : key x ≡ n = cc in same)
map_at key (x ∷ xs) (suc k) n e = map_at key xs k n e

pub at_map : {A : Type 0} (key : A → ℕ) (xs : List A) (k : ℕ) (x : A) → slice_get xs k ≡ Some x → slice_get (map key xs) k ≡ Some (key x)
at_map key [] k x e = absurd (let clash : None ≡ Some x = e in cc)
at_map key (y ∷ ys) zero x e = ap (λ z. Some (key z)) (let same : y ≡ x = cc in same)
at_map key (y ∷ ys) (suc k) x e = at_map key ys k x e

pub at_in_next : {A : Type 0} (xs ys : List A) (k : ℕ) (y : A) → slice_get ys k ≡ Some y → slice_get (xs ++ ys) (length xs + k) ≡ Some y
at_in_next [] ys k y e = subst (λ (j : ℕ). slice_get ys j ≡ Some y) (let same : k ≡ 0 + k = omega arith in same) e
at_in_next (x ∷ xs) ys k y e = subst (λ (j : ℕ). slice_get (x ∷ (xs ++ ys)) j ≡ Some y) (let same : suc (length xs + k) ≡ suc (length xs) + k = omega arith in same) (at_in_next xs ys k y e)

pub at_in_first : {A : Type 0} (xs ys : List A) (k : ℕ) (x : A) → slice_get xs k ≡ Some x → slice_get (xs ++ ys) k ≡ Some x
at_in_first [] ys k x e = absurd (let clash : None ≡ Some x = e in cc)
at_in_first (y ∷ xs) ys zero x e = e
at_in_first (y ∷ xs) ys (suc k) x e = at_in_first xs ys k x e

-- where an element stands in a list with one more at its end
pub at_last : {A : Type 0} (xs : List A) (a x : A) (i : ℕ) → slice_get (xs ++ a ∷ []) i ≡ Some x → (slice_get xs i ≡ Some x) ⊎ ((i ≡ length xs) × (x ≡ a))
at_last [] a x zero e = inr (refl, let same : a ≡ x = cc in sym same)
at_last [] a x (suc i) e = absurd (let clash : None ≡ Some x = e in cc)
at_last (y ∷ ys) a x zero e = inl e
at_last {A} (y ∷ ys) a x (suc i) e = next (at_last ys a x i e)
  where
    next : (slice_get ys i ≡ Some x) ⊎ ((i ≡ length ys) × (x ≡ a)) → (slice_get (y ∷ ys) (suc i) ≡ Some x) ⊎ ((suc i ≡ length (y ∷ ys)) × (x ≡ a))
    next (inl h) = inl h
    next (inr h) = inr (ap suc h.0, h.1)

pub last_at : {A : Type 0} (xs : List A) (a : A) → slice_get (xs ++ a ∷ []) (length xs) ≡ Some a
last_at [] a = refl
last_at (y ∷ ys) a = last_at ys a
