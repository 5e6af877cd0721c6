use Rattle.ir_proper.proofs.ReadIsProper.{read_is_proper, read_with_few_sites}
use Rattle.ir_proper.proofs.laws.a_read_module_is_proper.Goals as goal

pub returns-clause-calls : goal.returns-clause-calls
returns-clause-calls c = read_is_proper

pub returns-clause-graph : goal.returns-clause-graph
returns-clause-graph c = read_with_few_sites
