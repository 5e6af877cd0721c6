use Rattle.std.specs.Option.{option_map}
use Rattle.optinline.specs.Words.{view, texts_of}
use Rattle.optinline.specs.Answer.{answer_of}
use Rattle.optinline.proofs.Limits.{told, not_two}
use Rattle.optinline.proofs.command.reply.Goals as goal

pub returns-clause-answer : goal.returns-clause-answer
returns-clause-answer g c = told (g.D.Desk.files c.args.desk.now) (texts_of c.args.words.now) (view c.in-Some.build) (option_map (λ v. v.items) c.in_ok-file.file) (answer_of c.in_ok-build_reply.field-0) c.in-Some.ensures c.in_ok-file.ensures.found c.in_ok-build_reply.ensures.answer

pub returns-clause-words : goal.returns-clause-words
returns-clause-words g c = let command = c.in-Some.ensures in (λ e. absurd (not_two c.in_ok-build_reply.field-0.status c.in_ok-build_reply.ensures.status e), λ e. absurd cc)
