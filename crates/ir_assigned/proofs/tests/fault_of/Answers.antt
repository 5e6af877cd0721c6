use Rattle.ir_assigned.proofs.tests.fault_of.Goals as goal

pub first_fault-requires-clause-labels : goal.first_fault-requires-clause-labels
first_fault-requires-clause-labels c = c.in_ok-differ.ensures.labels c.if-branch.true

pub first_fault-requires-clause-registers : goal.first_fault-requires-clause-registers
first_fault-requires-clause-registers c = c.in_ok-differ.ensures.registers c.if-branch.true
