use Rattle.tree_search.proofs.Found.{found_completes, found_size, found_least, found_passes}
use Rattle.tree_search.proofs.laws.the_picked_map_is_least.Goals as goal

pub returns-clause-map : goal.returns-clause-map
returns-clause-map c = found_completes

pub returns-clause-size : goal.returns-clause-size
returns-clause-size c = found_size

pub returns-clause-least : goal.returns-clause-least
returns-clause-least c = found_least

pub returns-clause-passes : goal.returns-clause-passes
returns-clause-passes c = found_passes
