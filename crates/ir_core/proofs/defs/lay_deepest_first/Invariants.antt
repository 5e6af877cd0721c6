use Rattle.ir_core.specs.Known.{IsRight}
use Rattle.ir_core.proofs.defs.lay_deepest_first.Given as goal

abbrev pub invariant-loop-x : goal.invariant-loop-x
invariant-loop-x l = IsRight l.table.items l.defs
