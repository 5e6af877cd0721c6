use Rattle.component_split.proofs.Grown.{tree_grown, one_tree}
use Rattle.component_split.proofs.laws.a_state_has_one_tree.Goals as goal

pub returns : goal.returns
returns c = record { some = tree_grown; one = λ g p fs t u a b. one_tree t u g p fs a b }
