use Rattle.std.proofs.lemmas.Result.{IfOk-weaker}
use Rattle.optinline.specs.Answer.{answer_of, IsModuleAnswer, unread, read}
use Rattle.optinline.specs.Words.{view}
use Rattle.optinline.proofs.Refusals.{read_proper}
use Rattle.optinline.proofs.answer.module_reply.Goals as goal

pub read_reply-requires : goal.read_reply-requires
read_reply-requires c = read_proper c.args.bytes.now c.in-Ok.m c.in-Ok.ensures.module_of_it

pub returns-in-Ok-clause-answer : goal.returns-in-Ok-clause-answer
returns-in-Ok-clause-answer c =
    IfOk-weaker c.read_reply.result _ (λ r. IsModuleAnswer (view c.args.build.now) c.args.bytes.now (answer_of r)) (λ r h. read c.in-Ok.m c.in-Ok.ensures.module_of_it h) c.read_reply.ensures.answer

pub returns-in-Err-clause-answer : goal.returns-in-Err-clause-answer
returns-in-Err-clause-answer c =
    IfOk-weaker c.unread_reply.result _ (λ r. IsModuleAnswer (view c.args.build.now) c.args.bytes.now (answer_of r)) (λ r h. unread c.in-Err.fault h.0 c.in-Err.ensures.fault h.1) c.unread_reply.ensures.answer
