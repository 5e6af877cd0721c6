use Rattle.size_measure.proofs.Keys.{one_key}
use Rattle.size_measure.proofs.laws.the_reached_sites_are_a_key.Goals as goal

pub returns : goal.returns
returns c = one_key
