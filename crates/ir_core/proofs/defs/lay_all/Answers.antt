use Rattle.ir_core.proofs.Laying.{describes}
use Rattle.ir_core.proofs.defs.lay_all.Goals as goal

pub returns : goal.returns
returns c = describes _ _ c.loop-changed.invariant.right (c.loop-changed.invariant.stuck c.loop-changed-test.false)
