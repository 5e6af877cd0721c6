use Rattle.std.proofs.Common.{◌≡◌, ◌++◌, drop}
use Rattle.std.specs.List.{flat_map}
use Rattle.frame_layout.specs.Parts.{block_allocas, allocas}
use Rattle.frame_layout.proofs.parts.push_allocas.Given as goal

abbrev pub invariant-loop-block : goal.invariant-loop-block
invariant-loop-block l = l.parts.items ++ flat_map block_allocas (drop l.block-index l.b.blocks) ≡ l.fn.parts.items ++ allocas l.b
