use Rattle.ir_simulation.proofs.Composed.{keeps_repeated}
use Rattle.ir_simulation.proofs.laws.a_pass_may_be_repeated.Goals as goal

pub returns : goal.returns
returns c = keeps_repeated
