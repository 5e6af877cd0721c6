use Rattle.std.proofs.Common.{◌++◌, ℕ, List, map, take}
use Rattle.std.specs.List.{All}
use Rattle.component_split.specs.Over.{site_graph, labels}
use Rattle.component_split.specs.States.{IsStateOf, SamePoints, point}
use Rattle.component_split.proofs.count.push_parts.Given as goal

abbrev pub invariant-loop-set : goal.invariant-loop-set
invariant-loop-set l = record {
  states : All (λ s. IsStateOf l.g s) l.todo.items;
  points : SamePoints (site_graph l.g) (map point l.todo.items) (map point l.fn.todo.items ++ map (λ (s : List ℕ × List ℕ). (labels l.partial, s.0)) (take l.set-index l.sets));
}
