use Rattle.ir_simulation.proofs.Composed.{all_kept}
use Rattle.ir_simulation.proofs.laws.all_bodies_may_be_passed.Goals as goal

pub returns : goal.returns
returns c = all_kept
