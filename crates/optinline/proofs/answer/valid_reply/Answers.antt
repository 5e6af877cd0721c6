use Rattle.std.proofs.Common.{None, ap, sym, ◌∙◌}
use Rattle.std.proofs.lemmas.Result.{IfOk-weaker}
use Rattle.module_rules.specs.First.{earliest}
use Rattle.optinline.specs.Answer.{answer_of, IsValidAnswer, not_built, accepted}
use Rattle.optinline.specs.Unbuilt.{unbuilt}
use Rattle.optinline.specs.Words.{view}
use Rattle.optinline.proofs.FirstUnbuilt.{some_first, none_first}
use Rattle.optinline.proofs.answer.valid_reply.Goals as goal

pub built-requires : goal.built-requires
built-requires c = none_first (unbuilt c.args.v.now) (ap (λ m. earliest None (unbuilt m)) (sym c.module.ensures.same) ∙ sym c.first_unbuilt.ensures ∙ c.in-None.is)

pub returns-in_ok-not_yet-in-Some-clause-answer : goal.returns-in_ok-not_yet-in-Some-clause-answer
returns-in_ok-not_yet-in-Some-clause-answer c =
    not_built c.in-Some.place (some_first (unbuilt c.args.v.now) c.in-Some.place (ap (λ m. earliest None (unbuilt m)) (sym c.module.ensures.same) ∙ sym c.first_unbuilt.ensures ∙ c.in-Some.is)) c.in_ok-not_yet-in-Some.ensures.answer

pub returns-in-None-clause-answer : goal.returns-in-None-clause-answer
returns-in-None-clause-answer c =
    let all = none_first (unbuilt c.args.v.now) (ap (λ m. earliest None (unbuilt m)) (sym c.module.ensures.same) ∙ sym c.first_unbuilt.ensures ∙ c.in-None.is) in
    IfOk-weaker c.built.result _ (λ r. IsValidAnswer (view c.args.build.now) c.args.v.now (answer_of r)) (λ r h. accepted all h) c.built.ensures.answer
