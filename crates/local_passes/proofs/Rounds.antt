-- Rounds after one that changes nothing.
use Rattle.std.proofs.Common.{◌≡◌, ℕ, zero, suc, ◌+◌, ◌-◌, ◌≤◌, Bool, true, false, [], ◌∷◌, refl, ap, ◌∙◌, arith}
use Rattle.std.specs.List.{list_any}
use Rattle.std.specs.Fn.{iterate}

still : {A : Type 0} (f : A → A) (n : ℕ) (x : A) → f x ≡ x → iterate f n x ≡ x
still f zero x e = refl
still f (suc n) x e = ap (iterate f n) e ∙ still f n x e

joined : {A : Type 0} (f : A → A) (m n : ℕ) (x : A) → iterate f (m + n) x ≡ iterate f n (iterate f m x)
joined f zero n x = let none : 0 + n ≡ n = omega arith in ap (λ k. iterate f k x) none
joined f (suc m) n x = let one : suc m + n ≡ suc (m + n) = omega arith in ap (λ k. iterate f k x) one ∙ joined f m n (f x)

-- where one round more changes nothing, no later one does
pub ended : {A : Type 0} (f : A → A) (m n : ℕ) (x : A) → m ≤ n → f (iterate f m x) ≡ iterate f m x → iterate f n x ≡ iterate f m x
ended f m n x le e =
    let rest : n ≡ m + (n - m) = omega (arith, le) in
    ap (λ k. iterate f k x) rest ∙ joined f m (n - m) x ∙ still f (n - m) (iterate f m x) e

-- where none of six passes changed anything, each did not
pub six_fail : (p q r s t u : Bool) → list_any (λ x. x) (p ∷ q ∷ r ∷ s ∷ t ∷ u ∷ []) ≡ false
    → (p ≡ false) × (q ≡ false) × (r ≡ false) × (s ≡ false) × (t ≡ false) × (u ≡ false)
six_fail false false false false false false e = (refl, refl, refl, refl, refl, refl)
six_fail true q r s t u e = absurd (let none : true ≡ false = e in cc)
six_fail false true r s t u e = absurd (let none : true ≡ false = e in cc)
six_fail false false true s t u e = absurd (let none : true ≡ false = e in cc)
six_fail false false false true t u e = absurd (let none : true ≡ false = e in cc)
six_fail false false false false true u e = absurd (let none : true ≡ false = e in cc)
six_fail false false false false false true e = absurd (let none : true ≡ false = e in cc)
