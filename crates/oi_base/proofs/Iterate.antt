-- A step taken so many times.
use Rattle.std.proofs.Common.{◌≡◌, ℕ, zero, suc, ◌+◌, ◌-◌, ◌≤◌, ap, ◌∙◌, arith}
use Rattle.std.specs.Fn.{iterate}

-- more turns, one after another
pub iterate_more : {S : Type 0} (step : S → S) (k j : ℕ) (s : S) → iterate step j (iterate step k s) ≡ iterate step (k + j) s
iterate_more step zero j s = let e : j ≡ 0 + j = omega arith in ap (λ n. iterate step n s) e
iterate_more step (suc k) j s =
    let e : suc (k + j) ≡ suc k + j = omega arith in
    iterate_more step k j (step s) ∙ ap (λ n. iterate step n s) e

-- the first k turns of n, and the rest
pub iterate_rest : {S : Type 0} (step : S → S) (k n : ℕ) (s : S) → k ≤ n → iterate step (n - k) (iterate step k s) ≡ iterate step n s
iterate_rest step k n s h = let e : k + (n - k) ≡ n = omega arith in iterate_more step k (n - k) s ∙ ap (λ m. iterate step m s) e
