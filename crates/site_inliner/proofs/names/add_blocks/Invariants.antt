use Rattle.std.proofs.Common.{◌≡◌, drop}
use Rattle.std.specs.List.{flat_map}
use Rattle.module_rules.specs.Faults.{with_numbers}
use Rattle.site_inliner.specs.Parts.{block_numbers}
use Rattle.site_inliner.proofs.names.add_blocks.Given as goal

abbrev pub invariant-loop-block : goal.invariant-loop-block
invariant-loop-block l = with_numbers l.numbers (flat_map block_numbers (drop l.block-index l.blocks)) ≡ with_numbers l.fn.numbers (flat_map block_numbers l.blocks)
