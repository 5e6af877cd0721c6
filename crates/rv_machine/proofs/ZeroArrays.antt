-- What arrays of zeros hold.
use Rattle.std.proofs.Common.{◌≡◌, ℕ, zero, suc, refl, arith, Bool, true, false, ◌&&◌, nat_eq, if◌then◌else◌, List, [], ◌∷◌, replicate}
use Rattle.std.proofs.lemmas.Bool.Decides.{nat_tests}
use Rattle.rv_machine.specs.Bytes.{held}

abbrev pub zeros : List ℕ → Bool
zeros [] = true
zeros (x ∷ xs) = nat_eq x 0 && zeros xs

first : (x : ℕ) (b : Bool) → nat_eq x 0 && b ≡ true → x ≡ 0
first x b h = grind (arith, nat_tests)

others : (x : ℕ) (b : Bool) → nat_eq x 0 && b ≡ true → b ≡ true
others x b h = grind (arith, nat_tests)

pub held-zeros : (xs : List ℕ) (q : ℕ) → zeros xs ≡ true → held xs q ≡ 0
held-zeros [] zero h = refl
held-zeros [] (suc q) h = refl
held-zeros (x ∷ xs) zero h = first x (zeros xs) h
held-zeros (x ∷ xs) (suc q) h = held-zeros xs q (others x (zeros xs) h)

-- one word among zeros
pub one_word : (v : ℕ) (xs : List ℕ) (q : ℕ) → zeros xs ≡ true → held (0 ∷ 0 ∷ v ∷ xs) q ≡ (if nat_eq q 2 then v else 0)
one_word v xs zero h = refl
one_word v xs (suc zero) h = refl
one_word v xs (suc (suc zero)) h = refl
one_word v xs (suc (suc (suc q))) h = let e : nat_eq (suc (suc (suc q))) 2 ≡ false = grind (arith, nat_tests) in rw e (held-zeros xs q h)

pub held_replicate : (n q : ℕ) → held (replicate n 0) q ≡ 0
held_replicate zero zero = refl
held_replicate zero (suc q) = refl
held_replicate (suc n) zero = refl
held_replicate (suc n) (suc q) = held_replicate n q
