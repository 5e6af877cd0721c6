use Rattle.std.proofs.Common.{◌≡◌, drop}
use Rattle.std.specs.List.{list_any}
use Rattle.const_fold.specs.Shortening.{block_shortens}
use Rattle.const_fold.proofs.shortening.any_shortens.Given as goal

abbrev pub invariant-loop-block : goal.invariant-loop-block
invariant-loop-block l = list_any block_shortens (drop l.block-index l.blocks) ≡ list_any block_shortens l.blocks
