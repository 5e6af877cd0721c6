use Rattle.size_measure.proofs.LeastParts.{least_of_all}
use Rattle.size_measure.proofs.laws.the_least_is_the_sum_over_components.Goals as goal

pub returns : goal.returns
returns c = least_of_all
