use Rattle.std.proofs.Common.{◌≡◌, ◌++◌, map, drop}
use Rattle.module_rules.specs.Cycles.{edge_to}
use Rattle.module_rules.proofs.type_graph.push_edges.Given as goal

abbrev pub invariant-loop-y : goal.invariant-loop-y
invariant-loop-y l = l.to.items ++ map (edge_to l.x) (drop l.y-index l.y-items) ≡ l.fn.to.items ++ map (edge_to l.x) l.y-items
