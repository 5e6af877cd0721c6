use Rattle.std.proofs.Common.{◌≡◌, ◌++◌, map, length}
use Rattle.std.specs.Prelude.{reverse}
use Rattle.flow_fold.specs.MergeBlocks.{renamed_in}
use Rattle.flow_fold.specs.Merges.{name_in}
use Rattle.flow_fold.proofs.renaming.renamed_blocks.Given as goal

abbrev pub invariant-loop-block : goal.invariant-loop-block
invariant-loop-block l = l.new ++ map (renamed_in (name_in l.names)) (reverse l.left) ≡ map (renamed_in (name_in l.names)) l.fn.blocks

abbrev pub decreases-loop-block : goal.decreases-loop-block
decreases-loop-block l = length l.left
