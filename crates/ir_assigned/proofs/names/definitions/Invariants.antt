use Rattle.ir_assigned.specs.Names.{AreDefinitionsTo}
use Rattle.ir_assigned.proofs.names.definitions.Given as goal

abbrev pub invariant-loop-b : goal.invariant-loop-b
invariant-loop-b l = AreDefinitionsTo l.func l.b l.table.items
