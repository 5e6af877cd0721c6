use Rattle.passes_meaning.proofs.BranchesLaw.{branches_keep_meaning}
use Rattle.passes_meaning.proofs.laws.folding_branches_keeps_meaning.Goals as goal

pub returns : goal.returns
returns c = branches_keep_meaning
