use Rattle.flow_fold.specs.MergeBlocks.{blocks_merged}
use Rattle.flow_fold.proofs.MergedFormed.{all_merged_formed}
use Rattle.flow_fold.proofs.laws.merged_blocks_are_formed.Goals as goal

pub returns : goal.returns
unfolding blocks_merged
returns c = all_merged_formed
