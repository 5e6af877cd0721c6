use Rattle.ir_verifier.proofs.PositionLaws.{positions_step}
use Rattle.ir_verifier.proofs.positions.first_fault.Goals as goal

-- src/positions.rt:23:5
pub loop-block-preserved : goal.loop-block-preserved
loop-block-preserved c = positions_step _ _ _ _ _ _ _ _ c.in_block-first.ensures c.as_slice-block-items.ensures c.loop-block-test.true c.block-item.is c.loop-block.invariant
