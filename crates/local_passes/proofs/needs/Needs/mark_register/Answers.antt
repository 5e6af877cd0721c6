use Rattle.std.proofs.Common.{rules, ◌<◌, length, arith}
use Rattle.local_passes.proofs.NeedMarks.{marks_one}
use Rattle.local_passes.proofs.needs.Needs.mark_register.Goals as goal

pub returns-in_ok-push : goal.returns-in_ok-push
returns-in_ok-push c =
    let len = c.len.ensures in
    let within : c.args.r.0 < length c.args.self.now.marks = omega arith in
    marks_one c.args.self.now (record { marks = c.set.new.self; todo = c.push.new.self }) c.args.r within (search rules) c.set.ensures c.in_ok-push.ensures.ok
