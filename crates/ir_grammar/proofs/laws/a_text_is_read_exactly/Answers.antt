use Rattle.ir_grammar.proofs.Faults.{read_to_end, read_exactly}
use Rattle.ir_grammar.proofs.laws.a_text_is_read_exactly.Goals as goal

pub returns-clause-module_of_it : goal.returns-clause-module_of_it
returns-clause-module_of_it c = read_to_end

pub returns-clause-to_its_end : goal.returns-clause-to_its_end
returns-clause-to_its_end c = read_exactly
