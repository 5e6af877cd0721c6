use Rattle.std.proofs.Common.{ℕ, ◌<◌}
use Rattle.std.specs.Prelude.{slice_index_or}
use Rattle.ir_core.specs.declared.flat.FlatBlock.{FlatBlock}
use Rattle.rv_select_tests.specs.Plain.{IsPlainBlock}
use Rattle.rv_select_tests.proofs.checking.are_plain_blocks.Given as goal

abbrev pub invariant-loop-block : goal.invariant-loop-block
invariant-loop-block l = (k : ℕ) (d : FlatBlock) → k < l.block-index → IsPlainBlock l.count (slice_index_or l.blocks k d)
