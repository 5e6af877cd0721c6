-- The first line of a text, and what follows it.
use Rattle.std.proofs.Common.{◌≡◌, ℕ, suc, ◌+◌, ◌<◌, ◌≤◌, Bool, true, false, cond, length, take, drop, List, [], ◌∷◌, Some, None, refl, sym, ap, arith}
use Rattle.std.specs.Prelude.{position, not, nat_lt, min, ◌==◌, if◌then◌else◌}
use Rattle.std.specs.List.{position_or_len, onto_first}
use Rattle.std.proofs.lemmas.Bool.Decides.{nat_tests}
use Rattle.std.proofs.lemmas.List.Sums.{prefix_len-le-length}
use Rattle.decisions.specs.Ends.{end_of}
use Rattle.decisions.specs.Reading.{lines_of}

some_by : (t : Bool) (n i : ℕ) → cond t (Some n) None ≡ Some i → i ≡ n
some_by true n i e = cc
some_by false n i e = cc

none_by : (t : Bool) (n m : ℕ) → nat_lt n m ≡ t → cond t (Some n) None ≡ None → n ≤ m → m ≡ n
none_by true n m t e le = cc
none_by false n m t e le = let h : m ≤ n = grind (arith, nat_tests) in omega arith

lt_by : (t : Bool) (n m i : ℕ) → nat_lt n m ≡ t → cond t (Some n) None ≡ Some i → i < m
lt_by true n m i t e = let k : n ≡ i = cc in grind (arith, nat_tests)
lt_by false n m i t e = cc

pub position_lt : {X : Type 0} (p : X → Bool) (bs : List X) (i : ℕ) → Some i ≡ position p bs → i < length bs
position_lt p bs i e = lt_by _ (position_or_len p bs) (length bs) i refl (sym e)

pub position_some : {X : Type 0} (p : X → Bool) (bs : List X) (i : ℕ) → Some i ≡ position p bs → i ≡ position_or_len p bs
position_some p bs i e = some_by (nat_lt (position_or_len p bs) (length bs)) (position_or_len p bs) i (sym e)

pub position_none : {X : Type 0} (p : X → Bool) (bs : List X) → None ≡ position p bs → length bs ≡ position_or_len p bs
position_none p bs e = none_by _ (position_or_len p bs) (length bs) refl (sym e) (prefix_len-le-length (λ x. not (p x)) bs)

by_test : (t : Bool) (n m e : ℕ) → min (n + 1) m ≡ e → min (cond (not t) (1 + n) 0 + 1) (suc m) ≡ (if t then 1 else suc e)
by_test true n m e h = omega arith
by_test false n m e h = omega arith

pub end_is : (bs : List ℕ) → min (position_or_len (λ b. b == 10) bs + 1) (length bs) ≡ end_of bs
end_is [] = omega arith
end_is (b ∷ bs) = by_test (b == 10) (position_or_len (λ b. b == 10) bs) (length bs) (end_of bs) (end_is bs)

pub end_positive : (b : ℕ) (bs : List ℕ) → 0 < end_of (b ∷ bs)
end_positive b bs = positive (b == 10) (end_of bs)
  where
    positive : (t : Bool) (e : ℕ) → 0 < (if t then 1 else suc e)
    positive true e = omega arith
    positive false e = omega arith

longer : (b c : ℕ) (cs : List ℕ) (t : Bool) → lines_of (c ∷ cs) ≡ take (end_of (c ∷ cs)) (c ∷ cs) ∷ lines_of (drop (end_of (c ∷ cs)) (c ∷ cs)) → (if t then (b ∷ []) ∷ lines_of (c ∷ cs) else onto_first b (lines_of (c ∷ cs))) ≡ take (if t then 1 else suc (end_of (c ∷ cs))) (b ∷ c ∷ cs) ∷ lines_of (drop (if t then 1 else suc (end_of (c ∷ cs))) (b ∷ c ∷ cs))
longer b c cs true h = refl
longer b c cs false h = ap (λ (x : List (List ℕ)). onto_first b x) h

alone : (b : ℕ) (t : Bool) → (if t then (b ∷ []) ∷ [] else onto_first b []) ≡ take (if t then 1 else 1) (b ∷ []) ∷ lines_of (drop (if t then 1 else 1) (b ∷ []))
alone b true = refl
alone b false = refl

pub first_line : (b : ℕ) (bs : List ℕ) → lines_of (b ∷ bs) ≡ take (end_of (b ∷ bs)) (b ∷ bs) ∷ lines_of (drop (end_of (b ∷ bs)) (b ∷ bs))
first_line b [] = alone b (b == 10)
first_line b (c ∷ cs) = longer b c cs (b == 10) (first_line c cs)

pub end_above : (rest : List ℕ) → 0 < length rest → 0 < end_of rest
end_above [] lt = absurd (omega arith)
end_above (b ∷ bs) lt = end_positive b bs
