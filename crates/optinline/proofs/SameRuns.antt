-- Programs with the same bodies run alike, and what refines a run refines one that is seen alike.
use Rattle.std.proofs.Common.{◌≡◌, ◌⊎◌, ℕ, zero, suc, List, Option, Some, None, slice_get, refl, sym, ap, ◌∙◌, subst}
use Rattle.std.specs.Fn.{iterate}
use Rattle.oi_base.specs.Follows.{Status, Going, Ended, Undefined, Stuck, Seen, IsLasting}
use Rattle.ir_core.specs.declared.flat.FlatBlock.{FlatBlock}
use Rattle.ir_core.specs.Flat.{Program, Run, Effect, Sets, Allocates, Stores, Puts, Takes, Enters, Goes, Returns, Stops, NoMeaning, NoValue, applied, entered, goes_into, what_stands, block_of, in_block, turn_of, flat_step, flat_start, flat_run, seen}
use Rattle.rv_isa.specs.Isa.{Machine, Stack}
use Rattle.rv_isa.specs.Refines.{Agrees, Breaks, Overflows, Refines}

module _ (p q : Program) (bodies : (f : ℕ) → p.body f ≡ q.body f) where
  applied_same : (r : Run) (e : Effect) → applied p r e ≡ applied q r e
  applied_same r (Sets d v) = refl
  applied_same r (Allocates d size align) = refl
  applied_same r (Stores m) = refl
  applied_same r (Puts d b) = refl
  applied_same r (Takes d) = refl
  applied_same r (Enters d f args) = ap (entered r f args d) (bodies f)
  applied_same r (Goes b) = ap (λ x. goes_into r b (block_of x b)) (bodies r.top.func)
  applied_same r (Returns v) = refl
  applied_same r (Stops w) = refl
  applied_same r NoMeaning = refl
  applied_same r NoValue = refl

  block_same : (r : Run) (b : Option FlatBlock) → in_block p r b ≡ in_block q r b
  block_same r None = refl
  block_same r (Some b) = applied_same r (what_stands r b (slice_get b.code r.top.place))

  turn_same : (r : Run) (s : Status) → turn_of p r s ≡ turn_of q r s
  turn_same r Going = ap (λ x. in_block p r (block_of x r.top.block)) (bodies r.top.func) ∙ block_same r (block_of (q.body r.top.func) r.top.block)
  turn_same r (Ended w) = refl
  turn_same r Undefined = refl
  turn_same r Stuck = refl

  step_same : (r : Run) → flat_step p r ≡ flat_step q r
  unfolding flat_step
  step_same r = turn_same r r.status

  turns_same : (n : ℕ) (r : Run) → iterate (flat_step p) n r ≡ iterate (flat_step q) n r
  turns_same zero r = refl
  turns_same (suc n) r = ap (iterate (flat_step p) n) (step_same r) ∙ turns_same n (flat_step q r)

  pub runs_same : (input : List ℕ) → flat_start p input ≡ flat_start q input → (n : ℕ) → flat_run p input n ≡ flat_run q input n
  runs_same input start n = ap seen (turns_same n (flat_start p input) ∙ ap (iterate (flat_step q) n) start)

pub refines_same : (largest : ℕ) (r s : ℕ → Seen) (o : ℕ → Machine) → ((n : ℕ) → r n ≡ s n) → Refines largest r o → Refines largest s o
refines_same largest r s o same h = record {
  to_source = λ n. let c = h.to_source n in (c.0, subst (λ x. (Agrees x (o n) ⊎ Breaks x (o n)) ⊎ Overflows largest x (o n)) (same c.0) c.1);
  to_object = λ m lasting.
      let c = h.to_object m (subst (λ (x : Seen). IsLasting x.status) (sym (same m)) lasting) in
      (c.0, subst (λ x. Agrees x (o c.0) ⊎ ((a : ℕ) × ((o c.0).stop ≡ Stack a))) (same m) c.1);
}
