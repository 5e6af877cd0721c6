use Rattle.cert_checker.proofs.WorthBounds.{worth_bound}
use Rattle.cert_checker.proofs.laws.a_worth_is_a_bound.Goals as goal

pub returns : goal.returns
returns c = worth_bound
