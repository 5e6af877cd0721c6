use Rattle.std.proofs.Common.{◌≡◌, take, map}
use Rattle.site_inliner.specs.Parts.{block_of}
use Rattle.site_inliner.proofs.locals.Locals.blocks.Given as goal

abbrev pub invariant-loop-block : goal.invariant-loop-block
invariant-loop-block l = l.blocks ≡ map (block_of l.self) (take l.block-index l.source)
