use Rattle.size_measure.proofs.KeptTold.{kept_is}
use Rattle.size_measure.proofs.laws.the_test_of_who_is_kept_is_exact.Goals as goal

pub returns : goal.returns
returns c = kept_is
