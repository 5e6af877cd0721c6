-- Turns of a run that turns of an object match.
use Rattle.std.proofs.Common.{◌≡◌, ◌⊎◌, ℕ, ◌<◌, sym, ap, ◌∙◌, subst, inl, inr, ⊎_elim, arith}
use Rattle.std.specs.Fn.{iterate}
use Rattle.oi_base.specs.Turns.{Turn, goes, breaks, stops}
use Rattle.oi_base.specs.Follows.{Going, Ended, Undefined, IsPrefix}
use Rattle.ir_core.specs.Flat.{Program, Run, seen, flat_step, turn_of}
use Rattle.ir_core.proofs.Outputs.{undefined_keeps}
use Rattle.rv_isa.specs.Memory.{Segments}
use Rattle.rv_isa.specs.Isa.{Machine, Exit, step, stepped}
use Rattle.rv_isa.specs.Refines.{Same, both_end, Agrees, Breaks, Overflows, Refines}
use Rattle.rv_isa.proofs.Stretches.{Path}
use Rattle.rv_isa.proofs.RefinementChain.{refines}
use Rattle.rv_isa.proofs.OutputGrowth.{output_grows}
use Rattle.rv_select.specs.Stands.{Object, StandsFor}
use Rattle.rv_select.specs.Carried.{BothEnded, IsMatched, left, IsCarriedOut}
use Rattle.rv_select.proofs.QuietPrefix.{agrees_now}

module _ (o : Object) (p : Program) (largest : ℕ) where
  abbrev pub s : Segments
  s = o.segments

  abbrev pub Meets : Run → Machine → Type 0
  Meets r m = Agrees (seen r) m

  abbrev pub Broken : Run → Machine → Type 0
  Broken r m = Breaks (seen r) m

  abbrev pub Over : Run → Machine → Type 0
  Over r m = Overflows largest (seen r) m

  abbrev pub Carried : Run → Machine → Type 0
  Carried r m = IsCarriedOut o p largest r m

  ended_meets : (r : Run) (m : Machine) → BothEnded r m → Meets r m
  ended_meets r m b = record { same_output = sym b.output; same_status = subst (λ y. Same y m.stop) (sym b.ended) (subst (λ y. Same (Ended b.word) y) (sym b.exited) (both_end b.word)) }

  -- a quiet path of at least one turn to where both match again
  pub by_path : (at : ℕ → ℕ) (r : Run) (m m' : Machine) → StandsFor o p at r m → (path : Path s m m') → 0 < path.count → IsMatched o p (flat_step p r) m' → Carried r m
  by_path at r m m' st path some matched =
      goes path.count (subst (λ y. IsMatched o p (flat_step p r) y) (sym path.lands) matched)
      (λ j h. let q = path.quiet j h in inl (agrees_now (seen r) (iterate (step s) j m) st.going (sym st.output ∙ sym q.output) q.running))
      (λ z. absurd (omega arith))

  -- an undefined turn: whatever the object does, its output begins with the run's
  pub by_undefined : (at : ℕ → ℕ) (r : Run) (m : Machine) → StandsFor o p at r m → (flat_step p r).status ≡ Undefined → Carried r m
  by_undefined at r m st u = breaks (λ j. record { undefined = u; kept = subst (λ y. IsPrefix y (iterate (step s) j m).output) (st.output ∙ sym (undefined_keeps p r u)) (output_grows s m j) })

  exited_stays : (m : Machine) (w : ℕ) → m.stop ≡ Exit w → step s m ≡ m
  unfolding step
  exited_stays m w e = ap (stepped s m) e

  ended_stays : (r : Run) (w : ℕ) → r.status ≡ Ended w → flat_step p r ≡ r
  unfolding flat_step
  ended_stays r w e = ap (turn_of p r) e

  pub after_end : (r : Run) (m : Machine) → BothEnded r m → Carried r m
  after_end r m b =
      goes 1 (subst (λ y. IsMatched o p y (step s m)) (sym (ended_stays r b.word b.ended)) (subst (λ y. IsMatched o p r y) (sym (exited_stays m b.word b.exited)) (inr b)))
      (λ j h. let z : 0 ≡ j = omega arith in inl (subst (λ n. Meets r (iterate (step s) n m)) z (ended_meets r m b)))
      (λ z. absurd (omega arith))

  pub undefined_stays : (r : Run) → (seen r).status ≡ Undefined → (seen (flat_step p r)).status ≡ Undefined
  unfolding flat_step
  undefined_stays r e = let f : turn_of p r r.status ≡ turn_of p r Undefined = ap (turn_of p r) e in ap (λ y. y.status) f ∙ e

  -- ---- with what is kept of the runs

  module _ (Kept : Run → Type 0) where
    abbrev pub Related : Run → Machine → Type 0
    Related r m = ((at : ℕ → ℕ) × StandsFor o p at r m × Kept r) ⊎ BothEnded r m

    abbrev pub Step : Run → Machine → Type 0
    Step r m = Turn (flat_step p) (step s) Related Meets Broken Over (left p) r m

    with_kept : (r : Run) (m : Machine) → ((flat_step p r).status ≡ Going → Kept (flat_step p r)) → Carried r m → Step r m
    with_kept r m keeps (goes k matched meets nearer) = goes k (⊎_elim (λ y. inl (y.0, y.1, keeps y.1.going)) (λ b. inr b) matched) meets nearer
    with_kept r m keeps (breaks broken) = breaks broken
    with_kept r m keeps (stops k meets over) = stops k meets over

    related_meets : (r : Run) (m : Machine) → Related r m → Meets r m
    related_meets r m h = ⊎_elim (λ y. let st = y.1 in agrees_now (seen r) m st.going (sym st.output) st.running) (λ b. ended_meets r m b) h

    step_from : ((at : ℕ → ℕ) (r : Run) (m : Machine) → StandsFor o p at r m → Kept r → Carried r m × ((flat_step p r).status ≡ Going → Kept (flat_step p r))) → (r : Run) (m : Machine) → Related r m → Step r m
    step_from turn r m (inl y) = let t = turn y.0 r m y.1 y.2 in with_kept r m t.1 t.0
    step_from turn r m (inr b) = with_kept r m (λ g. absurd (differ (sym (ap (λ (z : Run). z.status) (ended_stays r b.word b.ended) ∙ b.ended) ∙ g))) (after_end r m b)
      where
        differ : Ended b.word ≡ Going → ⊥
        differ e = cc

    -- where each turn from a state that stands for a run's is carried out, the object refines the run
    pub refined_by : ((at : ℕ → ℕ) (r : Run) (m : Machine) → StandsFor o p at r m → Kept r → Carried r m × ((flat_step p r).status ≡ Going → Kept (flat_step p r))) → (at : ℕ → ℕ) (r : Run) (m : Machine) → StandsFor o p at r m → Kept r → Refines largest (λ k. seen (iterate (flat_step p) k r)) (λ n. iterate (step s) n m)
    refined_by turn at r m st kept = refines Run (flat_step p) seen (step s) largest Related (left p) r m related_meets undefined_stays (step_from turn) (inl (at, st, kept))
