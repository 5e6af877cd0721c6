use Rattle.optinline.specs.Words.{texts_of}
use Rattle.optinline.specs.Answer.{answer_of}
use Rattle.optinline.proofs.Causes.{causes_told}
use Rattle.optinline.proofs.Delivered.{delivered}
use Rattle.optinline.proofs.Limits.{no_end}
use Rattle.optinline.proofs.command.run.Goals as goal

pub returns-clause-causes : goal.returns-clause-causes
returns-clause-causes g c = causes_told (g.D.Desk.files c.args.desk.now) (texts_of c.args.words.now) (answer_of c.in_ok-reply.reply) c.in_ok-reply.ensures.answer

pub returns-clause-no_end : goal.returns-clause-no_end
returns-clause-no_end g c = no_end c.in_ok-reply.reply.status c.in_ok-reply.ensures.status

pub returns-clause-delivers : goal.returns-clause-delivers
returns-clause-delivers g c zero = delivered (g.D.Desk.files c.args.desk.now) (g.D.Desk.files c.reply.new.desk) (g.D.Desk.files c.carry_out.new.desk) (texts_of c.args.words.now) (answer_of c.in_ok-reply.reply) c.in_ok-reply.ensures.answer c.in_ok-reply.ensures.files c.in_ok-carry_out.ensures.leaves.0 zero
