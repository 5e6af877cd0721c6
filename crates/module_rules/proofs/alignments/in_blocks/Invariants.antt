use Rattle.std.proofs.Common.{◌≡◌, drop}
use Rattle.std.specs.List.{flat_map}
use Rattle.module_rules.specs.First.{earliest}
use Rattle.module_rules.specs.AlignFaults.{code_align_faults}
use Rattle.module_rules.proofs.alignments.in_blocks.Given as goal

abbrev pub invariant-loop-block : goal.invariant-loop-block
invariant-loop-block l =
    earliest l.first (flat_map (code_align_faults l.m.types.defs) (drop l.block-index l.blocks))
    ≡ earliest l.fn.before (flat_map (code_align_faults l.m.types.defs) l.blocks)
