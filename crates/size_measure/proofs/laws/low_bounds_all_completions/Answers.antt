use Rattle.size_measure.proofs.Bounds.{low_bound}
use Rattle.size_measure.proofs.laws.low_bounds_all_completions.Goals as goal

pub returns : goal.returns
returns c = low_bound
