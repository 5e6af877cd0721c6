use Rattle.std.proofs.Common.{ℕ, ap, ◌∙◌, subst}
use Rattle.std.proofs.lemmas.Result.{IfOk-weaker}
use Rattle.ir_core.specs.FirstBroken.{IsFirstBroken}
use Rattle.ir_verifier.specs.Verdict.{IfRule, IfUnassigned}
use Rattle.optinline.specs.Answer.{answer_of, refused, rule_word, IsValidAnswer, IsReadAnswer, broken, valid}
use Rattle.optinline.specs.Words.{view}
use Rattle.optinline.proofs.answer.read_reply.Goals as goal

pub returns-in-Ok-clause-answer : goal.returns-in-Ok-clause-answer
returns-in-Ok-clause-answer c =
    IfOk-weaker c.valid_reply.result _ (λ r. IsReadAnswer (view c.args.build.now) c.args.m (answer_of r)) (λ r h. valid c.in-Ok.ensures.valid (subst (λ m. IsValidAnswer (view c.args.build.now) m (answer_of r)) c.in-Ok.ensures.same h)) c.valid_reply.ensures.answer

pub returns-in_ok-rule_broken-in-Err-Rule-clause-answer : goal.returns-in_ok-rule_broken-in-Err-Rule-clause-answer
returns-in_ok-rule_broken-in-Err-Rule-clause-answer c =
    broken c.in-Err-Rule.rule c.in-Err-Rule.place (subst (IfRule (IsFirstBroken c.args.m)) c.in-Err-Rule.field-0-is c.in-Err-Rule.ensures.rule) c.in_ok-rule_broken-in-Err-Rule.ensures.answer

pub returns-in_ok-rule_broken-in-Err-Unassigned-clause-answer : goal.returns-in_ok-rule_broken-in-Err-Unassigned-clause-answer
returns-in_ok-rule_broken-in-Err-Unassigned-clause-answer c =
    broken 18 c.in-Err-Unassigned.unassigned.place (subst (IfUnassigned (λ u. IsFirstBroken c.args.m 18 u.place)) c.in-Err-Unassigned.field-0-is c.in-Err-Unassigned.ensures.assignment) (c.in_ok-rule_broken-in-Err-Unassigned.ensures.answer ∙ ap (λ (n : ℕ). refused c.in-Err-Unassigned.unassigned.place (rule_word n)) c.number.ensures)
