use Rattle.passes_meaning.proofs.ConstantsLaw.{constants_keep_meaning}
use Rattle.passes_meaning.proofs.laws.folding_constants_keeps_meaning.Goals as goal

pub returns : goal.returns
returns c = constants_keep_meaning
