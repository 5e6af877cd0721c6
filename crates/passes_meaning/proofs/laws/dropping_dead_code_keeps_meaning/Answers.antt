use Rattle.passes_meaning.proofs.DeadLaw.{dead_keep_meaning}
use Rattle.passes_meaning.proofs.laws.dropping_dead_code_keeps_meaning.Goals as goal

pub returns : goal.returns
returns c = dead_keep_meaning
