use Rattle.rv_select.proofs.CarriedSums.{sums_carried}
use Rattle.rv_select.proofs.laws.sums_are_carried_out.Goals as goal

pub returns : goal.returns
returns c = sums_carried
