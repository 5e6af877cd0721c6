use Rattle.std.proofs.Common.{map, ap, sym, ◌∙◌}
use Rattle.std.specs.Option.{option_copied}
use Rattle.const_fold.proofs.InPlace.{replaced_next, has_next}
use Rattle.local_passes.specs.CopyTables.{ends_told}
use Rattle.local_passes.specs.LocalCopies.{entry_copied, phi_copied}
use Rattle.local_passes.proofs.copied_phis.copy_phis.Goals as goal
use Rattle.local_passes.proofs.copied_phis.copy_phis.Goals.{in-Some+in_ok-entries, in_default}

pub loop-at-preserved : goal.loop-at-preserved
loop-at-preserved c =
    let ends = ends_told c.args.table.now.definitions.items c.args.spans.now in
    elim c.match-get.branch [
      | in-Some+in_ok-entries w ↦ replaced_next (phi_copied ends) c.args.phis.now c.loop-at.phis c.match-get.phis c.loop-at.at w.in-Some.phi.now (record { reg = w.in-Some.phi.now.reg; entries = w.in_ok-entries.entries }) c.loop-at.invariant w.in-Some.ensures.value (ap (λ es. record { reg = w.in-Some.phi.now.reg; entries = es }) (w.in_ok-entries.ensures ∙ ap (map (entry_copied ends)) w.as_slice.ensures)) (w.phis-is ∙ w.set.ensures)
      | in_default w ↦ absurd (has_next (phi_copied ends) c.args.phis.now c.loop-at.phis c.loop-at.at c.len-at-end.result c.loop-at.invariant c.loop-at-test.true c.len-at-end.ensures (ap option_copied (sym w.in_default.is) ∙ c.get.ensures.value))
    ]
