use Rattle.std.proofs.Common.{◌≡◌, ◌++◌, drop}
use Rattle.std.specs.List.{flat_map}
use Rattle.ir_printer.specs.Marks.{block_marks}
use Rattle.ir_printer.proofs.marks.Sheet.blocks.Given as goal

abbrev pub invariant-loop-block : goal.invariant-loop-block
invariant-loop-block l = l.self ++ flat_map block_marks (drop l.block-index l.blocks) ≡ l.fn.self ++ flat_map block_marks l.blocks
