use Rattle.std.proofs.Common.{◌≡◌}
use Rattle.component_split.specs.Arcs.{edges_of}
use Rattle.component_split.proofs.orientation.edges_of.Given as goal

abbrev pub invariant-loop-from : goal.invariant-loop-from
invariant-loop-from l = l.edges.items ≡ edges_of l.forth l.arcs l.from
