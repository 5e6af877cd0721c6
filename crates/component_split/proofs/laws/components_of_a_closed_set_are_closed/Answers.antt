use Rattle.component_split.proofs.ClosedSets.{component_closed}
use Rattle.component_split.proofs.laws.components_of_a_closed_set_are_closed.Goals as goal

pub returns : goal.returns
returns c = λ g p fs r h. component_closed g p fs h r
