use Rattle.local_passes.specs.DropDead.{used_in}
use Rattle.local_passes.proofs.NeedMarks.{item_at}
use Rattle.local_passes.proofs.UseTables.{adds_next}
use Rattle.local_passes.proofs.use_table.UseTable.add_blocks.Goals as goal

pub loop-block-preserved : goal.loop-block-preserved
loop-block-preserved c =
    adds_next c.args.self.now c.loop-block.self c.add_block.new.self (λ q k. used_in q k) c.args.blocks.now c.loop-block.block-index c.block-item.result (item_at c.args.blocks.now c.loop-block.block-index c.block-item.result c.loop-block-test.true c.block-item.is) c.loop-block.invariant c.in_ok-add_block.ensures
