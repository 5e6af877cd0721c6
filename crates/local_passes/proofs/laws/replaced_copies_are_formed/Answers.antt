use Rattle.local_passes.proofs.CopiesFormed.{copies_formed}
use Rattle.local_passes.proofs.laws.replaced_copies_are_formed.Goals as goal

pub returns : goal.returns
returns c = copies_formed
