use Rattle.ir_assigned.specs.Names.{AreLabelsTo}
use Rattle.ir_assigned.proofs.names.labels.Given as goal

abbrev pub invariant-loop-b : goal.invariant-loop-b
invariant-loop-b l = AreLabelsTo l.func l.b l.table.items
