use Rattle.std.proofs.Common.{◌≡◌, ◌++◌, drop}
use Rattle.std.specs.List.{filter_map}
use Rattle.frame_layout.specs.Parts.{alloca_part, block_allocas}
use Rattle.frame_layout.proofs.parts.push_block_allocas.Given as goal

abbrev pub invariant-loop-instr : goal.invariant-loop-instr
invariant-loop-instr l = l.parts.items ++ filter_map alloca_part (drop l.instr-index l.block.code) ≡ l.fn.parts.items ++ block_allocas l.block
