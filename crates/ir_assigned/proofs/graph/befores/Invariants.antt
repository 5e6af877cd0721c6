use Rattle.ir_assigned.specs.Graph.{AreBeforeTo}
use Rattle.ir_assigned.proofs.graph.befores.Given as goal

abbrev pub invariant-loop-a : goal.invariant-loop-a
invariant-loop-a l = AreBeforeTo l.func l.a l.before.items
