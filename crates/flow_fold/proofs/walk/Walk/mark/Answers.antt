use Rattle.std.proofs.Common.{rules}
use Rattle.flow_fold.proofs.Marking.{marks_one}
use Rattle.flow_fold.proofs.walk.Walk.mark.Goals as goal

pub returns-in_ok-push : goal.returns-in_ok-push
returns-in_ok-push c = marks_one c.args.self.now (record { marks = c.set.new.self; todo = c.push.new.self }) c.args.b.0 c.requires.within (search rules) c.set.ensures c.in_ok-push.ensures.ok
