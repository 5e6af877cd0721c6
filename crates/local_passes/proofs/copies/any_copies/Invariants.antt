use Rattle.std.proofs.Common.{◌≡◌, drop}
use Rattle.std.specs.List.{list_any}
use Rattle.local_passes.specs.CopyTables.{block_copies}
use Rattle.local_passes.proofs.copies.any_copies.Given as goal

abbrev pub invariant-loop-block : goal.invariant-loop-block
invariant-loop-block l = list_any block_copies (drop l.block-index l.blocks) ≡ list_any block_copies l.blocks
