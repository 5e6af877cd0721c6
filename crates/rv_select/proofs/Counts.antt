-- How many bits of a list are true before each place.
use Rattle.std.proofs.Common.{◌≡◌, ℕ, ◌+◌, ◌≤◌, Bool, true, false, cond, nat_le, List, [], ◌∷◌, ◌++◌, length, take, get_or, refl, sym, ap, ◌∙◌, arith}
use Rattle.std.proofs.lemmas.Bool.Decides.{nat_tests}
use Rattle.std.proofs.lemmas.List.{get_or_push, get_or_append_left}
use Rattle.std.proofs.lemmas.List.Sums.{count_by-le-length, sum_by-take-le}
use Rattle.std.proofs.lemmas.Grind.{get_or_default_zero}
use Rattle.rv_select.specs.Branches.{count_true}
use Rattle.rv_select.specs.Heads.{AreCounts}

pub counted : (bits : List Bool) (counts : List ℕ) (k x : ℕ) → AreCounts bits counts → k ≤ length bits → x ≡ get_or counts k x → x ≡ count_true (take k bits)
counted bits counts k x are le is = is ∙ get_or_default_zero counts k x (omega (arith, are.0, le)) ∙ are.1 k le

pub count_part : (bits : List Bool) (k : ℕ) → count_true (take k bits) ≤ count_true bits
count_part bits k = sum_by-take-le (λ (b : Bool). cond b 1 0) bits k

pub count_few : (bits : List Bool) (k : ℕ) → count_true (take k bits) ≤ length bits
count_few bits k = omega (arith, count_part bits k, count_by-le-length (λ (b : Bool). b) bits)

-- one more count at the end
pub more_counts : (bits : List Bool) (counts wider : List ℕ) (i n : ℕ) → wider ≡ counts ++ n ∷ [] → length counts ≡ i + 1 → n ≡ count_true (take (i + 1) bits) → ((k : ℕ) → k ≤ i → get_or counts k 0 ≡ count_true (take k bits)) → (k : ℕ) → k ≤ i + 1 → get_or wider k 0 ≡ count_true (take k bits)
more_counts bits counts wider i n pushed len is before k le = by_place (nat_le k i) refl
  where
    by_place : (b : Bool) → nat_le k i ≡ b → get_or wider k 0 ≡ count_true (take k bits)
    by_place true t =
        let low : k ≤ i = grind (arith, nat_tests) in
        ap (λ (xs : List ℕ). get_or xs k 0) pushed ∙ get_or_append_left counts (n ∷ []) 0 k (omega (arith, len, low)) ∙ before k low
    by_place false t =
        let last : k ≡ i + 1 = grind (arith, nat_tests) in
        ap (λ (xs : List ℕ). get_or xs k 0) pushed ∙ get_or_push counts n 0 k (omega (arith, len, last)) ∙ is ∙ ap (λ (m : ℕ). count_true (take m bits)) (sym last)
