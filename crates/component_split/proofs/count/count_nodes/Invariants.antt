use Rattle.std.proofs.Common.{◌≡◌, ◌≤◌, ◌+◌, ◌-◌, List, map}
use Rattle.std.specs.List.{All}
use Rattle.component_split.specs.Tree.{Tree, nodes}
use Rattle.component_split.specs.Over.{site_graph, IsMarksOf}
use Rattle.component_split.specs.States.{IsTreeOf, IsStateOf, HaveTrees, nodes_in, point}
use Rattle.component_split.proofs.count.count_nodes.Given as goal

abbrev pub invariant-loop-state : goal.invariant-loop-state
invariant-loop-state l = record {
  states : All (λ s. IsStateOf l.g s) l.todo.items;
  trees : (t : Tree) → IsTreeOf l.g t → (ts : List Tree) × HaveTrees (site_graph l.g) (map point l.todo.items) ts × (l.count + nodes_in ts ≡ nodes t);
  marks : IsMarksOf l.g l.marks;
  few : l.count ≤ l.limit;
}

abbrev pub decreases-loop-state : goal.decreases-loop-state
decreases-loop-state l = l.limit - l.count
