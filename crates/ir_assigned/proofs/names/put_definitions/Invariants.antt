use Rattle.ir_assigned.specs.Names.{PutsDefinitions}
use Rattle.ir_assigned.proofs.names.put_definitions.Given as goal

abbrev pub invariant-loop-at : goal.invariant-loop-at
invariant-loop-at l = PutsDefinitions l.b l.block l.at l.initial.table.items l.table.items
