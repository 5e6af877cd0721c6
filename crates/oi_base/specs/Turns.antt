-- A run that another run simulates, turn by turn.
use Rattle.std.specs.Prelude.{ℕ, ◌<◌, ◌≡◌, ◌⊎◌}
use Rattle.std.specs.Fn.{iterate}

-- One turn of a source at a, matched by a target at b. Stands is the relation that is kept, Meets says that
-- what is seen of both agrees, Broken that the source is undefined and the target has kept its output so far,
-- Stopped that the target's stack has ended.
pub data Turn {A B : Type 0} (go_a : A → A) (go_b : B → B) (Stands Meets Broken Stopped : A → B → Type 0) (left : A → ℕ) (a : A) (b : B) : Type 0 where
  -- k turns of the target lead to where both stand again; where k is 0 the source comes nearer to a turn that isn't
  goes : (k : ℕ) → Stands (go_a a) (iterate go_b k b) → ((j : ℕ) → j < k → Meets a (iterate go_b j b) ⊎ Meets (go_a a) (iterate go_b j b)) → (k ≡ 0 → left (go_a a) < left a) → Turn go_a go_b Stands Meets Broken Stopped left a b
  -- the source's turn is undefined
  breaks : ((j : ℕ) → Broken (go_a a) (iterate go_b j b)) → Turn go_a go_b Stands Meets Broken Stopped left a b
  -- the target stops after k turns for want of stack
  stops : (k : ℕ) → ((j : ℕ) → j < k → Meets a (iterate go_b j b) ⊎ Meets (go_a a) (iterate go_b j b)) → ((j : ℕ) → Stopped (go_a a) (iterate go_b j (iterate go_b k b))) → Turn go_a go_b Stands Meets Broken Stopped left a b

-- Each turn of the source is matched by turns of the target, what is seen of states that stand for each other agrees, and
-- an undefined source stays undefined.
pub record Simulates {A B : Type 0} (go_a : A → A) (go_b : B → B) (Stands Meets Broken Stopped : A → B → Type 0) (left : A → ℕ) (IsUndefined : A → Type 0) : Type 0 where
  pub meets : (a : A) (b : B) → Stands a b → Meets a b
  pub turn : (a : A) (b : B) → Stands a b → Turn go_a go_b Stands Meets Broken Stopped left a b
  pub stays : (a : A) → IsUndefined a → IsUndefined (go_a a)
  pub broken : (a : A) (b : B) → Broken a b → IsUndefined a

-- What is so shown of the runs from two states. At each turn of the target the source has one at which both agree, or it is
-- undefined there, or the target's stack has ended; and for each turn at which the source is defined the target has one at
-- which both agree, unless its stack ends.
pub record Simulated {A B : Type 0} (go_a : A → A) (go_b : B → B) (Meets Broken Stopped : A → B → Type 0) (IsUndefined : A → Type 0) (a : A) (b : B) : Type 0 where
  pub to_source : (n : ℕ) → (m : ℕ) × ((Meets (iterate go_a m a) (iterate go_b n b) ⊎ Broken (iterate go_a m a) (iterate go_b n b)) ⊎ Stopped (iterate go_a m a) (iterate go_b n b))
  pub to_target : (m : ℕ) → (IsUndefined (iterate go_a m a) → ⊥) → ((n : ℕ) × Meets (iterate go_a m a) (iterate go_b n b)) ⊎ ((n i : ℕ) × Stopped (iterate go_a i a) (iterate go_b n b))
