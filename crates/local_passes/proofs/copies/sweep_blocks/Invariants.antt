use Rattle.std.proofs.Common.{◌≡◌, length, take, drop}
use Rattle.std.specs.Prelude.{reverse}
use Rattle.local_passes.specs.CopyTables.{IsTimed, IsSwept}
use Rattle.local_passes.proofs.copies.sweep_blocks.Given as goal

abbrev pub invariant-loop-block : goal.invariant-loop-block
invariant-loop-block l = record {
  left : reverse l.left ≡ drop (length l.sweep.blocks) l.fn.blocks;
  timed : IsTimed l.sweep.table;
  swept : IsSwept (take (length l.sweep.blocks) l.fn.blocks) l.sweep;
}

abbrev pub decreases-loop-block : goal.decreases-loop-block
decreases-loop-block l = length l.left
