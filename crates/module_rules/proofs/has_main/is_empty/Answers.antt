use Rattle.module_rules.proofs.MainLaws.{empty_told}
use Rattle.module_rules.proofs.has_main.is_empty.Goals as goal

pub returns : goal.returns
returns c = empty_told c.is_empty.result c.args.params.now c.is_empty.ensures
