use Rattle.passes_meaning.proofs.MergedLaw.{merging_keeps_meaning}
use Rattle.passes_meaning.proofs.laws.merging_blocks_keeps_meaning.Goals as goal

pub returns : goal.returns
returns c = merging_keeps_meaning
