use Rattle.const_fold.proofs.ConstantsFormed.{constants_formed}
use Rattle.const_fold.proofs.laws.folded_constants_are_formed.Goals as goal

pub returns : goal.returns
returns c = constants_formed
