use Rattle.std.proofs.Common.{drop}
use Rattle.site_inliner.proofs.PathLaws.{ConstAt}
use Rattle.site_inliner.proofs.offsets.const_walk.Given as goal

abbrev pub invariant-loop-index : goal.invariant-loop-index
invariant-loop-index l = ConstAt l.m.types.defs l.source l.at l.indices (drop l.index-index l.indices) l.bytes
