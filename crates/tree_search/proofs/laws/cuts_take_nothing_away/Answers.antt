use Rattle.tree_search.proofs.Cuts.{one_value, same_pick, visits_few}
use Rattle.tree_search.proofs.laws.cuts_take_nothing_away.Goals as goal

pub returns-clause-value : goal.returns-clause-value
returns-clause-value c = one_value

pub returns-clause-map : goal.returns-clause-map
returns-clause-map c = same_pick

pub returns-clause-nodes : goal.returns-clause-nodes
returns-clause-nodes c = visits_few
