use Rattle.ir_grammar.proofs.Faults.{first_refused, one_refused, refused_told}
use Rattle.ir_grammar.proofs.laws.the_refused_token_is_the_first.Goals as goal

pub returns-clause-first : goal.returns-clause-first
returns-clause-first c = first_refused

pub returns-clause-one : goal.returns-clause-one
returns-clause-one c = one_refused

pub returns-clause-told : goal.returns-clause-told
returns-clause-told c = refused_told
