-- Where each turn of a source is matched by turns of a target, each run is seen in the other.
use Rattle.std.proofs.Common.{ℕ, zero, suc, ◌+◌, ◌-◌, ◌<◌, ◌⊎◌, refl, subst, inl, inr, ⊎_elim, arith}
use Rattle.std.specs.Fn.{iterate}
use Rattle.std.proofs.lemmas.Bool.{cases_lt}
use Rattle.oi_base.specs.Turns.{Turn, goes, breaks, stops, Simulates, Simulated}
use Rattle.oi_base.proofs.Iterate.{iterate_more, iterate_rest}

module _ (A B : Type 0) (go_a : A → A) (go_b : B → B) (Stands Meets Broken Stopped : A → B → Type 0) (left : A → ℕ) where
  -- the target at b has its counterpart after m turns of the source
  abbrev pub Seen_at : A → B → Type 0
  Seen_at a b = (Meets a b ⊎ Broken a b) ⊎ Stopped a b

  module _ (meets : (a : A) (b : B) → Stands a b → Meets a b) (turn : (a : A) (b : B) → Stands a b → Turn go_a go_b Stands Meets Broken Stopped left a b) where
    -- what is to be shown at n turns of the target
    abbrev Found : ℕ → A → B → Type 0
    Found n a b = (m : ℕ) × Seen_at (iterate go_a m a) (iterate go_b n b)

    one_later : (n : ℕ) (a : A) (b : B) → Found n (go_a a) b → Found n a b
    one_later n a b f = (suc f.0, f.1)

    -- the target is seen before or after the source's turn
    on_the_way : (n : ℕ) (a : A) (b : B) → Meets a (iterate go_b n b) ⊎ Meets (go_a a) (iterate go_b n b) → Found n a b
    on_the_way n a b m = ⊎_elim (λ x. (0, inl (inl x))) (λ y. (1, inl (inl y))) m

    -- one turn of the source, where fewer turns of the target are done already, and so are those that the source makes alone
    by_turn : (bound fuel n : ℕ) (a : A) (b : B) → n < suc bound → left a < suc fuel → ((n : ℕ) (a : A) (b : B) → n < bound → Stands a b → Found n a b) → ((a' : A) → left a' < fuel → Stands a' b → Found n a' b) → Turn go_a go_b Stands Meets Broken Stopped left a b → Found n a b
    by_turn bound fuel n a b h f fewer nearer (goes zero s way less) = one_later n a b (nearer (go_a a) (let l = less refl in omega arith) s)
    by_turn bound fuel n a b h f fewer nearer (goes (suc k) s way less) = ⊎_elim
        (λ lt. on_the_way n a b (way n lt))
        (λ le. let r = fewer (n - suc k) (go_a a) (iterate go_b (suc k) b) (omega arith) s in (suc r.0, subst (λ y. Seen_at (iterate go_a r.0 (go_a a)) y) (iterate_rest go_b (suc k) n b le) r.1))
        (cases_lt n (suc k))
    by_turn bound fuel n a b h f fewer nearer (breaks b') = (1, inl (inr (b' n)))
    by_turn bound fuel n a b h f fewer nearer (stops k way end) = ⊎_elim
        (λ lt. on_the_way n a b (way n lt))
        (λ le. (1, inr (subst (λ y. Stopped (go_a a) y) (iterate_rest go_b k n b le) (end (n - k)))))
        (cases_lt n k)

    -- by induction on the target's turns, and where it makes none, on how far the source is from a turn that isn't silent
    by_left : (bound fuel n : ℕ) (a : A) (b : B) → n < suc bound → left a < fuel → ((n : ℕ) (a : A) (b : B) → n < bound → Stands a b → Found n a b) → Stands a b → Found n a b
    by_left bound zero n a b h f fewer s = absurd (omega arith)
    by_left bound (suc fuel) n a b h f fewer s = by_turn bound fuel n a b h f fewer (λ a' f' s'. by_left bound fuel n a' b h f' fewer s') (turn a b s)

    by_bound : (bound n : ℕ) (a : A) (b : B) → n < bound → Stands a b → Found n a b
    by_bound zero n a b h s = absurd (omega arith)
    by_bound (suc bound) n a b h s = by_left bound (suc (left a)) n a b h (omega arith) (λ n' a' b' h' s'. by_bound bound n' a' b' h' s') s

    -- each state of the target is met by one of the source
    pub to_source : (a : A) (b : B) → Stands a b → (n : ℕ) → Found n a b
    to_source a b s n = by_bound (suc n) n a b (omega arith) s

    -- an undefined source stays so, and only such a one breaks
    module _ (IsUndefined : A → Type 0) (stays : (a : A) → IsUndefined a → IsUndefined (go_a a)) (broken : (a : A) (b : B) → Broken a b → IsUndefined a) where
      stays_so : (m : ℕ) (a : A) → IsUndefined a → IsUndefined (iterate go_a m a)
      stays_so zero a u = u
      stays_so (suc m) a u = stays_so m (go_a a) (stays a u)

      -- what is to be shown at m turns of the source: the target meets it, or stopped after as many turns of the source as some
      abbrev Reached : ℕ → A → B → Type 0
      Reached m a b = ((n : ℕ) × Meets (iterate go_a m a) (iterate go_b n b)) ⊎ ((n i : ℕ) × Stopped (iterate go_a i a) (iterate go_b n b))

      later : (m k : ℕ) (a : A) (b : B) → Reached m (go_a a) (iterate go_b k b) → Reached (suc m) a b
      later m k a b r = ⊎_elim
          (λ f. inl (k + f.0, subst (λ y. Meets (iterate go_a m (go_a a)) y) (iterate_more go_b k f.0 b) f.1))
          (λ f. inr (k + f.0, suc f.1, subst (λ y. Stopped (iterate go_a f.1 (go_a a)) y) (iterate_more go_b k f.0 b) f.2))
          r

      target_turn : (m : ℕ) (a : A) (b : B) → (IsUndefined (iterate go_a m (go_a a)) → ⊥) → ((b' : B) → Stands (go_a a) b' → Reached m (go_a a) b') → Turn go_a go_b Stands Meets Broken Stopped left a b → Reached (suc m) a b
      target_turn m a b defined rest (goes k s way less) = later m k a b (rest (iterate go_b k b) s)
      target_turn m a b defined rest (breaks b') = absurd (defined (stays_so m (go_a a) (broken (go_a a) b (b' 0))))
      target_turn m a b defined rest (stops k way end) = inr (k, 1, end 0)

      -- each defined state of the source is met by one of the target, unless the target's stack ends
      pub to_target : (m : ℕ) (a : A) (b : B) → Stands a b → (IsUndefined (iterate go_a m a) → ⊥) → Reached m a b
      to_target zero a b s defined = inl (0, meets a b s)
      to_target (suc m) a b s defined = target_turn m a b defined (λ b' s'. to_target m (go_a a) b' s' defined) (turn a b s)

pub simulated : {A B : Type 0} (go_a : A → A) (go_b : B → B) (Stands Meets Broken Stopped : A → B → Type 0) (left : A → ℕ) (IsUndefined : A → Type 0)
    → Simulates go_a go_b Stands Meets Broken Stopped left IsUndefined → (a : A) (b : B) → Stands a b → Simulated go_a go_b Meets Broken Stopped IsUndefined a b
simulated {A} {B} go_a go_b Stands Meets Broken Stopped left IsUndefined h a b s = record {
  to_source = to_source A B go_a go_b Stands Meets Broken Stopped left h.meets h.turn a b s;
  to_target = λ m defined. to_target A B go_a go_b Stands Meets Broken Stopped left h.meets h.turn IsUndefined h.stays h.broken m a b s defined;
}
