use Rattle.ir_grammar.proofs.Faults.{exceeded_place, exceeded_told, exceeded_front, one_exceeded}
use Rattle.ir_grammar.proofs.laws.a_limit_is_exceeded_there.Goals as goal

pub returns-clause-there : goal.returns-clause-there
returns-clause-there c = exceeded_place

pub returns-clause-told : goal.returns-clause-told
returns-clause-told c = exceeded_told

pub returns-clause-one : goal.returns-clause-one
returns-clause-one c = one_exceeded

pub returns-clause-front : goal.returns-clause-front
returns-clause-front c = exceeded_front
