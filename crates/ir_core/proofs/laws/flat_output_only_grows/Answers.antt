use Rattle.ir_core.proofs.Outputs.{seen_grows, seen_stays, undefined_leaves}
use Rattle.ir_core.proofs.laws.flat_output_only_grows.Goals as goal

pub returns-clause-grows : goal.returns-clause-grows
returns-clause-grows c = seen_grows

pub returns-clause-stays : goal.returns-clause-stays
returns-clause-stays c = seen_stays

pub returns-clause-undefined : goal.returns-clause-undefined
returns-clause-undefined c = undefined_leaves
