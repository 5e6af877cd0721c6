-- A quiet path before an object that refines a run.
use Rattle.std.proofs.Common.{◌≡◌, ◌⊎◌, ℕ, ◌+◌, ◌-◌, ◌≤◌, sym, ap, ◌∙◌, subst, inl, ⊎_elim}
use Rattle.std.specs.Fn.{iterate}
use Rattle.std.proofs.lemmas.Bool.{cases_lt}
use Rattle.oi_base.specs.Follows.{Going, Seen}
use Rattle.oi_base.proofs.Iterate.{iterate_more, iterate_rest}
use Rattle.rv_isa.specs.Memory.{Segments}
use Rattle.rv_isa.specs.Isa.{Machine, Running, Stack, step}
use Rattle.rv_isa.specs.Refines.{Same, both_go, Agrees, Breaks, Overflows, Refines}
use Rattle.rv_isa.proofs.Stretches.{Path}

pub agrees_now : (r : Seen) (m : Machine) → r.status ≡ Going → r.output ≡ m.output → m.stop ≡ Running → Agrees r m
agrees_now r m g o s = record { same_output = o; same_status = subst (λ y. Same y m.stop) (sym g) (subst (λ y. Same Going y) (sym s) both_go) }

module _ (s : Segments) (largest : ℕ) (r : ℕ → Seen) (m m' : Machine) (path : Path s m m') (going : (r 0).status ≡ Going) (output : (r 0).output ≡ m.output) (refines : Refines largest r (λ n. iterate (step s) n m')) where
  abbrev At : Machine → Type 0
  At o = (k : ℕ) × ((Agrees (r k) o ⊎ Breaks (r k) o) ⊎ Overflows largest (r k) o)

  abbrev Reached : ℕ → Machine → Type 0
  Reached k o = Agrees (r k) o ⊎ ((a : ℕ) × (o.stop ≡ Stack a))

  later : (n : ℕ) → path.count ≤ n → iterate (step s) (n - path.count) m' ≡ iterate (step s) n m
  later n le = ap (iterate (step s) (n - path.count)) (sym path.lands) ∙ iterate_rest (step s) path.count n m le

  further : (n : ℕ) → iterate (step s) n m' ≡ iterate (step s) (path.count + n) m
  further n = ap (iterate (step s) n) (sym path.lands) ∙ iterate_more (step s) path.count n m

  pub after_path : Refines largest r (λ n. iterate (step s) n m)
  after_path = record {
    to_source = λ n. ⊎_elim
        (λ lt. let q = path.quiet n lt in (0, inl (inl (agrees_now (r 0) (iterate (step s) n m) going (output ∙ sym q.output) q.running))))
        (λ le. subst At (later n le) (refines.to_source (n - path.count)))
        (cases_lt n path.count);
    to_object = λ k lasting. let c = refines.to_object k lasting in (path.count + c.0, subst (Reached k) (further c.0) c.1);
  }
