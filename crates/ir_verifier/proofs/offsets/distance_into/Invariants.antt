use Rattle.std.proofs.Common.{drop}
use Rattle.ir_verifier.proofs.OffsetLaws.{At}
use Rattle.ir_verifier.proofs.offsets.distance_into.Given as goal

abbrev pub invariant-loop-index : goal.invariant-loop-index
invariant-loop-index l = At l.m.types.defs l.fn.source l.at l.indices (drop l.index-index l.indices) l.distance
