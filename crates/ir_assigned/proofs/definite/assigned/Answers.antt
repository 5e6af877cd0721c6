use Rattle.ir_assigned.proofs.Naming.{labels_differ, registers_differ}
use Rattle.ir_assigned.proofs.definite.assigned.Goals as goal

pub first_fault-requires-clause-labels : goal.first_fault-requires-clause-labels
first_fault-requires-clause-labels c = labels_differ c.args.f.now c.requires.testable.3.names

pub first_fault-requires-clause-registers : goal.first_fault-requires-clause-registers
first_fault-requires-clause-registers c = registers_differ c.args.f.now c.requires.testable.3.names
