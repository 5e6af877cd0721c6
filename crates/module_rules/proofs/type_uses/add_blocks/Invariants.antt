use Rattle.std.proofs.Common.{◌≡◌, drop}
use Rattle.std.specs.List.{flat_map}
use Rattle.module_rules.specs.TypeFaults.{state, with_uses, block_uses}
use Rattle.module_rules.proofs.type_uses.add_blocks.Given as goal

abbrev pub invariant-loop-block : goal.invariant-loop-block
invariant-loop-block l =
    with_uses (state l.to) (flat_map block_uses (drop l.block-index l.blocks))
    ≡ with_uses (state l.fn.to) (flat_map block_uses l.blocks)
