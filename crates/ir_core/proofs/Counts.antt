-- Counting the elements of a list that pass one test and those that pass a wider one.
use Rattle.std.proofs.Common.{◌≡◌, ℕ, ◌+◌, ◌≤◌, zero, suc, Bool, true, false, List, [], ◌∷◌, length, Some, cond, refl, arith}
use Rattle.std.specs.List.{slice_get}

-- how many elements pass a test
abbrev pub count : {X : Type 0} → (X → Bool) → List X → ℕ
count p [] = 0
count p (x ∷ xs) = cond (p x) 1 0 + count p xs

module _ {X : Type 0} (p q : X → Bool) (wider : (x : X) → p x ≡ true → q x ≡ true) where
  pub count_wider : (xs : List X) → count p xs ≤ count q xs
  count_wider [] = omega arith
  count_wider (x ∷ xs) = by_tests (p x) (q x) (wider x) (count_wider xs)
    where
      by_tests : (a b : Bool) → (a ≡ true → b ≡ true) → count p xs ≤ count q xs → cond a 1 0 + count p xs ≤ cond b 1 0 + count q xs
      by_tests true true h le = omega arith
      by_tests true false h le = let e = h refl in cc
      by_tests false true h le = omega arith
      by_tests false false h le = omega arith

  -- where no more pass the wider test, what passes it passes the other
  pub count_same : (xs : List X) (i : ℕ) (x : X) → count q xs ≤ count p xs → slice_get xs i ≡ Some x → q x ≡ true → p x ≡ true
  count_same [] i x le at e = cc
  count_same (y ∷ ys) zero x le at e = by_test (p y) refl
    where
      by_test : (b : Bool) → p y ≡ b → p x ≡ true
      by_test true s = let same : y ≡ x = cc in cc
      by_test false s =
          let same : y ≡ x = cc in
          let passes : q y ≡ true = cc in
          let more = count_wider ys in
          let l : 1 + count q ys ≤ 0 + count p ys = rw (passes, s) at le in
          absurd (omega arith)
  count_same (y ∷ ys) (suc i) x le at e = count_same ys i x (rest (p y) (q y) (wider y) le) at e
    where
      rest : (a b : Bool) → (a ≡ true → b ≡ true) → cond b 1 0 + count q ys ≤ cond a 1 0 + count p ys → count q ys ≤ count p ys
      rest true true h l = omega arith
      rest true false h l = let e = h refl in cc
      rest false true h l = omega arith
      rest false false h l = omega arith

pub count_all : {X : Type 0} → (xs : List X) → count (λ _. true) xs ≡ length xs
count_all [] = refl
count_all (x ∷ xs) = let e = count_all xs in omega arith
