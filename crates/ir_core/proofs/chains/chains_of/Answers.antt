use Rattle.ir_core.proofs.Chained.{all_unseen}
use Rattle.ir_core.proofs.chains.chains_of.Goals as goal

pub loop-x-init : goal.loop-x-init
loop-x-init c = all_unseen _ _ c.in_ok-chains.ensures
