use Rattle.std.proofs.Common.{◌≡◌}
use Rattle.module_rules.specs.Cycles.{edges_of}
use Rattle.module_rules.proofs.type_graph.edges_of.Given as goal

abbrev pub invariant-loop-x : goal.invariant-loop-x
invariant-loop-x l = l.edges.items ≡ edges_of l.m.types.defs l.x
