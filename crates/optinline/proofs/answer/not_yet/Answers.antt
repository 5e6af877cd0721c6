use Rattle.std.proofs.Common.{ap, ◌∙◌}
use Rattle.optinline.specs.declared.status.TheConstants.{NOT_BUILT}
use Rattle.optinline.specs.Answer.{refusal}
use Rattle.optinline.proofs.Answered.{not_yet_is}
use Rattle.optinline.proofs.answer.not_yet.Goals as goal

pub returns-clause-answer : goal.returns-clause-answer
returns-clause-answer c = c.refuse.ensures.answer ∙ ap (refusal NOT_BUILT) c.in_ok-said.ensures.ok ∙ not_yet_is c.args.place
