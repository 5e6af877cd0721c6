use Rattle.ir_grammar.proofs.OneModule.{one_module, one_module_within}
use Rattle.ir_grammar.proofs.laws.a_text_has_one_module.Goals as goal

pub returns-clause-reads : goal.returns-clause-reads
returns-clause-reads c = one_module

pub returns-clause-within : goal.returns-clause-within
returns-clause-within c = one_module_within
