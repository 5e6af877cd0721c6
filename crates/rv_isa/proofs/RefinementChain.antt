-- An object that refines a follower refines the run itself; and a simulation makes an object refine a run.
use Rattle.std.proofs.Common.{◌≡◌, ℕ, ◌*◌, ◌≤◌, ◌<◌, ◌⊎◌, sym, ◌∙◌, subst, inl, inr, ⊎_elim, arith}
use Rattle.std.proofs.Math.Nat.{mul-le-mul_right}
use Rattle.std.specs.Fn.{iterate}
use Rattle.oi_base.specs.Turns.{Turn}
use Rattle.oi_base.specs.Follows.{Status, Going, Ended, Undefined, Stuck, Seen, IsPrefix, IsLasting, Follows}
use Rattle.oi_base.specs.Follows as ir
use Rattle.oi_base.proofs.Chain.{prefix_trans, not_undefined}
use Rattle.oi_base.proofs.Simulation.{to_source, to_target}
use Rattle.rv_isa.specs.Isa.{Machine}
use Rattle.rv_isa.specs.Memory.{stack_size}
use Rattle.rv_isa.specs.Refines.{Same, Agrees, Breaks, Overflows, Refines}

deeper : (largest d e : ℕ) → d ≤ e → stack_size < d * largest → stack_size < e * largest
deeper largest d e h k = let more : d * largest ≤ e * largest = mul-le-mul_right largest h in omega arith

module _ (largest : ℕ) (r s : ℕ → Seen) (o : ℕ → Machine) (f : Follows r s) (g : Refines largest s o) where
  abbrev Case : ℕ → Type 0
  Case n = (m : ℕ) × ((Agrees (r m) (o n) ⊎ Breaks (r m) (o n)) ⊎ Overflows largest (r m) (o n))

  abbrev Met : ℕ → Type 0
  Met k = (m : ℕ) × (ir.Breaks (r m) (s k) ⊎ (ir.Agrees (r m) (s k) × ((s k).depth ≤ (r m).depth)))

  on_agrees : (n k : ℕ) → Agrees (s k) (o n) → Met k → Case n
  on_agrees n k a p = (
    p.0,
    inl (⊎_elim
        (λ b. inr (record { undefined = b.undefined; kept = subst (λ x. IsPrefix (r p.0).output x) a.same_output b.kept }))
        (λ b. inl (record { same_output = b.0.same_output ∙ a.same_output; same_status = subst (λ x. Same x (o n).stop) (sym b.0.same_status) a.same_status }))
        p.1),
  )

  on_breaks : (n k : ℕ) → Breaks (s k) (o n) → Met k → Case n
  on_breaks n k a p = (
    p.0,
    inl (inr (⊎_elim
        (λ b. record { undefined = b.undefined; kept = prefix_trans _ _ _ b.kept a.kept })
        (λ b. absurd (not_undefined (r p.0).status b.0.lasting (b.0.same_status ∙ a.undefined)))
        p.1)),
  )

  on_overflows : (n k : ℕ) → Overflows largest (s k) (o n) → Met k → Case n
  on_overflows n k a p = (
    p.0,
    ⊎_elim
        (λ b. inl (inr (record { undefined = b.undefined; kept = subst (λ x. IsPrefix (r p.0).output x) a.same_output b.kept })))
        (λ b. inr (record { stopped = a.stopped; same_output = b.0.same_output ∙ a.same_output; deep = deeper largest _ _ b.1 a.deep }))
        p.1,
  )

  pub refines_on : Refines largest r o
  refines_on = record {
    to_source = λ n. let c = g.to_source n in ⊎_elim (λ x. ⊎_elim (λ a. on_agrees n c.0 a (f.to_source c.0)) (λ b. on_breaks n c.0 b (f.to_source c.0)) x) (λ b. on_overflows n c.0 b (f.to_source c.0)) c.1;
    to_object = λ m lasting.
        let k = f.to_follower m lasting in
        let c = g.to_object k.0 (subst IsLasting k.1.same_status lasting) in
        (c.0, ⊎_elim (λ a. inl (record { same_output = k.1.same_output ∙ a.same_output; same_status = subst (λ x. Same x (o c.0).stop) (sym k.1.same_status) a.same_status })) (λ z. inr z) c.1);
  }

-- a simulation of a run by an object
module _ (A : Type 0) (go : A → A) (look : A → Seen) (go_b : Machine → Machine) (largest : ℕ) (Stands : A → Machine → Type 0) (left : A → ℕ) where
  abbrev Met_now : A → Machine → Type 0
  Met_now a o = Agrees (look a) o

  abbrev Broken_now : A → Machine → Type 0
  Broken_now a o = Breaks (look a) o

  abbrev Over_now : A → Machine → Type 0
  Over_now a o = Overflows largest (look a) o

  pub refines : (a : A) (b : Machine) → ((a : A) (b : Machine) → Stands a b → Agrees (look a) b) → ((a : A) → (look a).status ≡ Undefined → (look (go a)).status ≡ Undefined) → ((a : A) (b : Machine) → Stands a b → Turn go go_b Stands Met_now Broken_now Over_now left a b) → Stands a b → Refines largest (λ m. look (iterate go m a)) (λ n. iterate go_b n b)
  refines a b meets stays turn s = record {
    to_source = λ n. to_source A Machine go go_b Stands Met_now Broken_now Over_now left meets turn a b s n;
    to_object = λ m lasting.
        ⊎_elim (λ x. (x.0, inl x.1)) (λ x. (x.0, inr x.2.stopped))
        (to_target A Machine go go_b Stands Met_now Broken_now Over_now left meets turn (λ x. (look x).status ≡ Undefined) stays (λ x y z. z.undefined) m a b s (λ e. not_undefined (look (iterate go m a)).status lasting e));
  }
