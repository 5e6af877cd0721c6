use Rattle.std.proofs.Common.{◌≡◌, drop}
use Rattle.std.specs.List.{flat_map}
use Rattle.module_rules.specs.First.{earliest}
use Rattle.optinline.specs.Unbuilt.{block_places}
use Rattle.optinline.proofs.unbuilt.at_blocks.Given as goal

abbrev pub invariant-loop-block : goal.invariant-loop-block
invariant-loop-block l =
    earliest l.first (flat_map block_places (drop l.block-index l.blocks))
    ≡ earliest l.fn.before (flat_map block_places l.blocks)
