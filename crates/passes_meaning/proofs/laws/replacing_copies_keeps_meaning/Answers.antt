use Rattle.passes_meaning.proofs.CopiesLaw.{copies_keep_meaning}
use Rattle.passes_meaning.proofs.laws.replacing_copies_keeps_meaning.Goals as goal

pub returns : goal.returns
returns c = copies_keep_meaning
