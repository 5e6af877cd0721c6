use Rattle.local_passes.proofs.RoundsFormed.{simplified_formed}
use Rattle.local_passes.proofs.laws.simplified_bodies_are_formed.Goals as goal

pub returns : goal.returns
returns c = simplified_formed
