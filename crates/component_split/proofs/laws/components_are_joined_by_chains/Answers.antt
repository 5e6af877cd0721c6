use Rattle.component_split.proofs.Chains.{same_class}
use Rattle.component_split.proofs.laws.components_are_joined_by_chains.Goals as goal

pub returns : goal.returns
returns c = same_class
