use Rattle.ir_simulation.proofs.Composed.{keeps_then}
use Rattle.ir_simulation.proofs.laws.passes_compose.Goals as goal

pub returns : goal.returns
returns c = keeps_then
