use Rattle.std.proofs.Common.{◌≡◌, ◌+◌, ◌++◌, length}
use Rattle.std.specs.Prelude.{reverse}
use Rattle.flow_fold.specs.Blocks.{by_number}
use Rattle.flow_fold.specs.Changes.{block_changed}
use Rattle.flow_fold.proofs.branches.decided_blocks.Given as goal

abbrev pub invariant-loop-block : goal.invariant-loop-block
invariant-loop-block l = (l.new ++ by_number (block_changed l.changes) (length l.new) (reverse l.left) ≡ by_number (block_changed l.changes) 0 l.fn.blocks) × (length l.new + length l.left ≡ length l.fn.blocks)

abbrev pub decreases-loop-block : goal.decreases-loop-block
decreases-loop-block l = length l.left
