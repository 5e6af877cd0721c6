use Rattle.local_passes.proofs.DeadFormed.{dead_formed}
use Rattle.local_passes.proofs.laws.bodies_without_dead_code_are_formed.Goals as goal

pub returns : goal.returns
returns c = dead_formed
