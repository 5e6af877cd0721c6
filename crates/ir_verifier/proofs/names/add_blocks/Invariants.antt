use Rattle.std.proofs.Common.{◌≡◌, drop}
use Rattle.std.specs.List.{flat_map}
use Rattle.ir_core.specs.ValidFunc.{block_locals_at}
use Rattle.ir_verifier.specs.Faults.{with_locals}
use Rattle.ir_verifier.proofs.names.add_blocks.Given as goal

abbrev pub invariant-loop-block : goal.invariant-loop-block
invariant-loop-block l = with_locals l.to (flat_map block_locals_at (drop l.block-index l.blocks)) ≡ with_locals l.fn.to (flat_map block_locals_at l.blocks)
