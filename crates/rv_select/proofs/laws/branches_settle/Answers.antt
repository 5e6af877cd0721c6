use Rattle.rv_select.proofs.Branches.{settled_stays, settled_least, short_reaches}
use Rattle.rv_select.proofs.laws.branches_settle.Goals as goal

pub returns-clause-settled : goal.returns-clause-settled
returns-clause-settled c = settled_stays

pub returns-clause-least : goal.returns-clause-least
returns-clause-least c = settled_least

pub returns-clause-near : goal.returns-clause-near
returns-clause-near c = short_reaches
