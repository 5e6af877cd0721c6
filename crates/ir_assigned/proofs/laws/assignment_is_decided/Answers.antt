use Rattle.ir_assigned.proofs.FirstDecided.{decided}
use Rattle.ir_assigned.proofs.laws.assignment_is_decided.Goals as goal

pub returns : goal.returns
returns c = decided
