use Rattle.std.proofs.Common.{◌≡◌, ◌++◌, take}
use Rattle.component_split.specs.Arcs.{edges_at}
use Rattle.component_split.proofs.orientation.push_edges.Given as goal

abbrev pub invariant-loop-arc : goal.invariant-loop-arc
invariant-loop-arc l = l.edges.items ≡ l.fn.edges.items ++ edges_at l.forth l.from (take l.arc-index l.arcs)
