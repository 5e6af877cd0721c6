use Rattle.module_rules.proofs.NameSums.{in_order}
use Rattle.module_rules.proofs.totals.in_order.Goals as goal

pub returns-clause-order : goal.returns-clause-order
returns-clause-order c = in_order c.sort_unstable.new.self.items c.sort_unstable.ensures.sorted
