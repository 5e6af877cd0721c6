use Rattle.std.proofs.Common.{◌≡◌, ◌++◌, map, length}
use Rattle.std.specs.Prelude.{reverse}
use Rattle.flow_fold.specs.Walks.{marked_in}
use Rattle.local_passes.specs.DropDead.{block_kept}
use Rattle.local_passes.proofs.dead.blocks_kept.Given as goal

abbrev pub invariant-loop-block : goal.invariant-loop-block
invariant-loop-block l = l.new ++ map (block_kept (marked_in l.marks)) (reverse l.left) ≡ map (block_kept (marked_in l.marks)) l.fn.blocks

abbrev pub decreases-loop-block : goal.decreases-loop-block
decreases-loop-block l = length l.left
