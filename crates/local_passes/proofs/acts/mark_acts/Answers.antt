use Rattle.local_passes.specs.DropDead.{acts_in}
use Rattle.local_passes.proofs.NeedMarks.{item_at, marks_part}
use Rattle.local_passes.proofs.acts.mark_acts.Goals as goal

pub loop-block-preserved : goal.loop-block-preserved
loop-block-preserved c = marks_part c.args.needs.now c.loop-block.needs c.mark_block.new.needs acts_in c.args.blocks.now c.loop-block.block-index c.block-item.result (item_at c.args.blocks.now c.loop-block.block-index c.block-item.result c.loop-block-test.true c.block-item.is) c.loop-block.invariant c.in_ok-mark_block.ensures
