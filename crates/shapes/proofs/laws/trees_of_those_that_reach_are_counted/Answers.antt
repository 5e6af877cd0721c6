use Rattle.shapes.proofs.Chains.{reaching_counted}
use Rattle.shapes.proofs.laws.trees_of_those_that_reach_are_counted.Goals as goal

pub returns : goal.returns
returns c = λ m g x f graph forest own. reaching_counted m g x graph forest f own
