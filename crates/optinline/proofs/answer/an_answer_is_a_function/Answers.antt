use Rattle.optinline.proofs.Answering.{an_answer_to, one_answer_to}
use Rattle.optinline.proofs.answer.an_answer_is_a_function.Goals as goal

pub returns-clause-some : goal.returns-clause-some
returns-clause-some c = an_answer_to

pub returns-clause-one : goal.returns-clause-one
returns-clause-one c = one_answer_to
