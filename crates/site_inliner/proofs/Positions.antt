-- Where names stand: positions among numbers, and names of which none stands twice.
use Rattle.std.proofs.Common.{◌≡◌, ℕ, suc, ◌+◌, ◌≤◌, Bool, true, false, not, cond, nat_eq, nat_lt, List, [], ◌∷◌, length, Some, None, refl, arith}
use Rattle.std.specs.List.{position, position_or_len}
use Rattle.std.proofs.lemmas.Bool.Decides.{nat_tests}

pub position_most : (x : ℕ) (ns : List ℕ) → position_or_len (nat_eq x) ns ≤ length ns
position_most x [] = omega arith
position_most x (n ∷ ns) = by (nat_eq x n) (position_most x ns)
  where
    by : (t : Bool) → position_or_len (nat_eq x) ns ≤ length ns → cond (not t) (1 + position_or_len (nat_eq x) ns) 0 ≤ suc (length ns)
    by true h = omega arith
    by false h = omega (arith, h)

pub not_among : (x : ℕ) (ns : List ℕ) → position (nat_eq x) ns ≡ None → position_or_len (nat_eq x) ns ≡ length ns
not_among x ns e = by (nat_lt (position_or_len (nat_eq x) ns) (length ns)) refl e
  where
    by : (t : Bool) → nat_lt (position_or_len (nat_eq x) ns) (length ns) ≡ t → cond t (Some (position_or_len (nat_eq x) ns)) None ≡ None → position_or_len (nat_eq x) ns ≡ length ns
    by true g h = absurd (let clash : Some (position_or_len (nat_eq x) ns) ≡ None = h in cc)
    by false g h = let m = position_most x ns in grind (arith, nat_tests)

pub among : (x : ℕ) (ns : List ℕ) (k : ℕ) → position (nat_eq x) ns ≡ Some k → position_or_len (nat_eq x) ns ≡ k
among x ns k e = by (nat_lt (position_or_len (nat_eq x) ns) (length ns)) e
  where
    by : (t : Bool) → cond t (Some (position_or_len (nat_eq x) ns)) None ≡ Some k → position_or_len (nat_eq x) ns ≡ k
    by true h = cc
    by false h = absurd (let clash : None ≡ Some k = h in cc)
