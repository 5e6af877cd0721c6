use Rattle.tree_search.proofs.Grown.{tree_grown, one_tree}
use Rattle.tree_search.proofs.laws.a_state_has_one_search_tree.Goals as goal

pub returns-clause-some : goal.returns-clause-some
returns-clause-some c = tree_grown

pub returns-clause-one : goal.returns-clause-one
returns-clause-one c = one_tree
