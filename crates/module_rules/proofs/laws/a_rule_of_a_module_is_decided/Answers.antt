use Rattle.module_rules.proofs.RulesDecided.{decided}
use Rattle.module_rules.proofs.laws.a_rule_of_a_module_is_decided.Goals as goal

pub returns : goal.returns
returns c = decided
