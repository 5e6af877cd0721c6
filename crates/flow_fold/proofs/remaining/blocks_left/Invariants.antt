use Rattle.std.proofs.Common.{◌≡◌, ◌+◌, ◌++◌, map, length}
use Rattle.std.specs.Prelude.{reverse}
use Rattle.flow_fold.specs.Blocks.{kept_from, left_in}
use Rattle.flow_fold.specs.Walks.{marked_in}
use Rattle.flow_fold.proofs.remaining.blocks_left.Given as goal

abbrev pub invariant-loop-block : goal.invariant-loop-block
invariant-loop-block l = (l.new ++ map (left_in (marked_in l.marks)) (kept_from (marked_in l.marks) l.at (reverse l.left)) ≡ map (left_in (marked_in l.marks)) (kept_from (marked_in l.marks) 0 l.fn.blocks)) × (l.at + length l.left ≡ length l.fn.blocks)

abbrev pub decreases-loop-block : goal.decreases-loop-block
decreases-loop-block l = length l.left
