use Rattle.std.proofs.Common.{◌≡◌, drop}
use Rattle.std.specs.List.{flat_map}
use Rattle.module_rules.specs.First.{earliest}
use Rattle.module_rules.specs.Faults.{block_faults}
use Rattle.module_rules.specs.SizeFaults.{step_is_too_large}
use Rattle.module_rules.proofs.sizes.in_blocks.Given as goal

abbrev pub invariant-loop-block : goal.invariant-loop-block
invariant-loop-block l =
    earliest l.first (flat_map (block_faults (step_is_too_large l.m.types.defs l.small)) (drop l.block-index l.blocks))
    ≡ earliest l.fn.before (flat_map (block_faults (step_is_too_large l.m.types.defs l.small)) l.blocks)
