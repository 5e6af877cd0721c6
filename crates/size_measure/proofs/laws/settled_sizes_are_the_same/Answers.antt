use Rattle.size_measure.proofs.Bounds.{settled_body}
use Rattle.size_measure.proofs.laws.settled_sizes_are_the_same.Goals as goal

pub returns : goal.returns
returns c = settled_body
