use Rattle.std.proofs.Common.{drop}
use Rattle.site_inliner.proofs.PathLaws.{WalkAt}
use Rattle.site_inliner.proofs.locals.Locals.walk.Given as goal

abbrev pub invariant-loop-index : goal.invariant-loop-index
invariant-loop-index l = WalkAt l.self l.source l.at l.indices (drop l.index-index l.indices) l.bytes l.fn.terms l.terms
