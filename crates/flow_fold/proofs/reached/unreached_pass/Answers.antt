use Rattle.std.proofs.Common.{length, ap, sym, ◌∙◌}
use Rattle.flow_fold.specs.Blocks.{only_blocks}
use Rattle.flow_fold.specs.DropUnreached.{unreached_dropped}
use Rattle.flow_fold.specs.Walks.{marked_in}
use Rattle.flow_fold.proofs.Settled.{reached_stay}
use Rattle.flow_fold.proofs.reached.unreached_pass.Goals as goal

pub returns-then-are_all-clause-body : goal.returns-then-are_all-clause-body
returns-then-are_all-clause-body c =
    reached_stay c.args.b c.requires.formed c.as_slice.result.now (ap marked_in c.as_slice.ensures ∙ c.in_ok-marks.ensures.reached) (ap length c.as_slice.ensures ∙ c.in_ok-marks.ensures.long) (sym c.are_all.ensures ∙ c.if-are_all.true)

pub returns-clause-body : goal.returns-clause-body
unfolding unreached_dropped
returns-clause-body c = c.in_ok-only_blocks.ensures ∙ ap (λ keep. only_blocks keep c.args.b) (ap marked_in c.as_slice-else-are_all.ensures ∙ c.in_ok-marks.ensures.reached)
