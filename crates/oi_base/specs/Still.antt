-- The least example of a simulation: a run that stays where it is, and itself.
use Rattle.std.proofs.Common.{ℕ, zero, suc, ◌<◌, ◌≡◌, inl, subst}
use Rattle.std.proofs.Math.Nat.{le_refl}
use Rattle.std.specs.Fn.{iterate}
use Rattle.oi_base.specs.Turns.{goes, Simulates}

stays_there : {a : ℕ} (j b : ℕ) → a ≡ b → a ≡ iterate (λ (n : ℕ). n) j b
stays_there zero b same = same
stays_there (suc j) b same = stays_there j b same

one_turn : suc zero ≡ zero → zero < zero
one_turn e = subst (λ (n : ℕ). zero < n) e (le_refl 1)

-- a run that stays where it is, and itself
pub matches_itself : Simulates (λ (n : ℕ). n) (λ (n : ℕ). n) (λ a b. a ≡ b) (λ a b. a ≡ b) (λ a b. ⊥) (λ a b. ⊥) (λ a. 0) (λ a. ⊥)
matches_itself = record {
  meets = λ a b same. same;
  turn = λ a b same. goes 1 same (λ j less. inl (stays_there j b same)) one_turn;
  stays = λ a h. h;
  broken = λ a b h. h;
}
