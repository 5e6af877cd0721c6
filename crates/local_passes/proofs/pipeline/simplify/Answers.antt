use Rattle.std.proofs.Common.{◌≡◌, ℕ, ◌≤◌, sym, ap, ◌∙◌, subst, arith, rules}
use Rattle.std.specs.Fn.{iterate}
use Rattle.oi_base.proofs.Iterate.{iterate_more}
use Rattle.ir_core.specs.WellFormed.{IsWellFormed}
use Rattle.local_passes.specs.Simplify.{one_round, simplified}
use Rattle.local_passes.proofs.Rounds.{ended}
use Rattle.local_passes.proofs.RoundsFormed.{rounds_well}
use Rattle.local_passes.proofs.pipeline.simplify.Goals as goal

pub round-requires : goal.round-requires
round-requires c = record { formed = subst IsWellFormed (sym c.loop-round.invariant) (rounds_well c.loop-round._round c.args.b c.requires.formed) }

pub loop-round-preserved : goal.loop-round-preserved
loop-round-preserved c = c.in_ok-new.ensures.body ∙ ap one_round c.loop-round.invariant ∙ iterate_more one_round c.loop-round._round 1 c.args.b

pub returns-then-not-changed : goal.returns-then-not-changed
unfolding simplified
returns-then-not-changed c =
    let few : c.loop-round._round ≤ 4 = omega (arith, c.loop-round-test.true, c.loop-round.auto._round-end) in
    let same = c.in_ok-new.ensures.same (search rules) in
    let fixed : one_round (iterate one_round c.loop-round._round c.args.b) ≡ iterate one_round c.loop-round._round c.args.b = ap one_round (sym c.loop-round.invariant) ∙ sym c.in_ok-new.ensures.body ∙ same ∙ c.loop-round.invariant in
    same ∙ c.loop-round.invariant ∙ sym (ended one_round c.loop-round._round 4 c.args.b few fixed)

pub returns : goal.returns
unfolding simplified
returns c =
    let last : c.loop-round._round ≡ 4 = omega (arith, c.loop-round-test.false, c.loop-round.auto._round-end) in
    c.loop-round.invariant ∙ ap (λ (n : ℕ). iterate one_round n c.args.b) last
