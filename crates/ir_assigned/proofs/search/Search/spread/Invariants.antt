use Rattle.std.proofs.Common.{take}
use Rattle.ir_assigned.specs.Search.{state, Spreads}
use Rattle.ir_assigned.proofs.search.Search.spread.Given as goal

abbrev pub invariant-loop-block : goal.invariant-loop-block
invariant-loop-block l = Spreads l.graph l.aim l.at (take l.block-index l.before) (state l.initial.self) (state l.self)
