use Rattle.tree_search.proofs.Deep.{search_depth, search_form}
use Rattle.tree_search.proofs.laws.a_search_tree_is_not_too_deep.Goals as goal

pub returns-clause-depth : goal.returns-clause-depth
returns-clause-depth c = search_depth

pub returns-clause-form : goal.returns-clause-form
returns-clause-form c = search_form
