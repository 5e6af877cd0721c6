use Rattle.std.proofs.Common.{◌≡◌, false, sym, ap, ap₂, ◌∙◌}
use Rattle.std.specs.List.{list_any}
use Rattle.flow_fold.specs.Walks.{marked_in}
use Rattle.local_passes.specs.DeadTests.{block_loses}
use Rattle.local_passes.specs.DropDead.{is_needed, only_registers, dead_dropped}
use Rattle.local_passes.proofs.NoneDead.{dead_stay}
use Rattle.local_passes.proofs.dead.dead_pass.Goals as goal

pub returns-clause-body : goal.returns-clause-body
returns-clause-body c =
    let none : list_any (block_loses (marked_in c.as_slice.result.now)) c.args.b.blocks ≡ false = ap (list_any (block_loses (marked_in c.as_slice.result.now))) (sym c.as_slice-2.ensures) ∙ sym c.any_dead.ensures ∙ c.if-any_dead.false in
    dead_stay c.args.b (marked_in c.as_slice.result.now) (ap marked_in c.as_slice.ensures ∙ c.in_ok-marks.ensures) none
