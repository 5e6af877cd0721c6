use Rattle.std.proofs.Common.{◌≡◌, ◌++◌, map, length}
use Rattle.std.specs.Prelude.{reverse}
use Rattle.const_fold.specs.FoldConstants.{block_with}
use Rattle.const_fold.specs.FactTables.{facts_in}
use Rattle.const_fold.proofs.folding.fold_blocks.Given as goal

abbrev pub invariant-loop-block : goal.invariant-loop-block
invariant-loop-block l = l.new ++ map (block_with (facts_in l.facts)) (reverse l.left) ≡ map (block_with (facts_in l.facts)) l.fn.blocks

abbrev pub decreases-loop-block : goal.decreases-loop-block
decreases-loop-block l = length l.left
