use Rattle.std.proofs.Common.{ap, sym, ◌∙◌}
use Rattle.std.specs.List.{filter}
use Rattle.std.specs.Option.{option_copied}
use Rattle.const_fold.proofs.InPlace.{replaced_next, has_next}
use Rattle.flow_fold.specs.Blocks.{with_entries}
use Rattle.flow_fold.specs.Changes.{entry_stays}
use Rattle.flow_fold.proofs.entries.drop_entries.Goals as goal
use Rattle.flow_fold.proofs.entries.drop_entries.Goals.{in-Some+in_ok-entries, in_default}

pub loop-at-preserved : goal.loop-at-preserved
loop-at-preserved c =
    let test = entry_stays c.args.changes.now c.args.b.0 in
    let f = with_entries (entry_stays c.args.changes.now c.args.b.0) in
    elim c.match-get.branch [
      | in-Some+in_ok-entries w ↦ replaced_next f c.args.phis.now c.loop-at.phis c.match-get.phis c.loop-at.at w.in-Some.phi.now (record { reg = w.in-Some.phi.now.reg; entries = w.in_ok-entries.entries }) c.loop-at.invariant w.in-Some.ensures.value
          (ap (λ es. record { reg = w.in-Some.phi.now.reg; entries = es }) (w.in_ok-entries.ensures ∙ ap (filter test) w.as_slice.ensures)) (w.phis-is ∙ w.set.ensures)
      | in_default w ↦ absurd (has_next f c.args.phis.now c.loop-at.phis c.loop-at.at c.len-at-end.result c.loop-at.invariant c.loop-at-test.true c.len-at-end.ensures (ap option_copied (sym w.in_default.is) ∙ c.get.ensures.value))
    ]
