use Rattle.passes_meaning.proofs.UnreachedLaw.{unreached_keeps_meaning}
use Rattle.passes_meaning.proofs.laws.dropping_unreached_blocks_keeps_meaning.Goals as goal

pub returns : goal.returns
returns c = unreached_keeps_meaning
