use Rattle.ir_core.specs.Ends.{AreRight}
use Rattle.ir_core.proofs.chains.chains_of.Given as goal

abbrev pub invariant-loop-x : goal.invariant-loop-x
invariant-loop-x l = AreRight l.chains.items l.defs
