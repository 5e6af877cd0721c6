use Rattle.size_measure.proofs.ForestTrees.{forest_tree}
use Rattle.size_measure.proofs.laws.trees_of_forests_are_those_of_maps.Goals as goal

pub returns : goal.returns
returns c = forest_tree
