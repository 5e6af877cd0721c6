use Rattle.flow_fold.specs.FoldBranches.{branches_folded}
use Rattle.flow_fold.proofs.BranchesFormed.{branches_formed}
use Rattle.flow_fold.proofs.laws.folded_branches_are_formed.Goals as goal

pub returns : goal.returns
unfolding branches_folded
returns c = branches_formed
