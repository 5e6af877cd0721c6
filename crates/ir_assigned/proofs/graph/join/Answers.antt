use Rattle.std.proofs.Common.{sym, ◌∙◌, arith}
use Rattle.ir_assigned.proofs.Joining.{join_one}
use Rattle.ir_assigned.proofs.graph.join.Goals as goal

pub returns-in_ok-push : goal.returns-in_ok-push
returns-in_ok-push c =
    join_one c.args.labels.now c.args.a c.args.target c.in-Some.b (sym c.get.ensures ∙ c.in-Some.is) c.args.before.now.items (omega arith) c.index_mut.result.now c.push.new.self c.index_mut.ensures.value c.in_ok-push.ensures.ok
