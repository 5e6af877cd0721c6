use Rattle.passes_meaning.proofs.SimplifiedLaw.{simplified_keeps}
use Rattle.passes_meaning.proofs.laws.simplifying_keeps_meaning.Goals as goal

pub returns : goal.returns
returns c = simplified_keeps
