use Rattle.std.proofs.Common.{take, slice_index_or, sym, subst}
use Rattle.std.proofs.lemmas.List.{take_more}
use Rattle.ir_assigned.specs.Graph.{Joins}
use Rattle.ir_assigned.proofs.Joining.{joins_more}
use Rattle.ir_assigned.proofs.graph.join_all.Goals as goal

pub loop-target-preserved : goal.loop-target-preserved
loop-target-preserved c =
    let k = c.loop-target.target-index in
    let ts = c.args.targets.now in
    subst (λ zs. Joins c.args.labels.now c.args.a zs c.args.before.now.items c.join.new.before.items) (sym (take_more ts k (record { 0 = 0 }) c.loop-target-test.true))
    (joins_more c.args.labels.now c.args.a (take k ts) (slice_index_or ts k (record { 0 = 0 })) c.args.before.now.items c.loop-target.before.items c.join.new.before.items c.loop-target.invariant c.in_ok-join.ensures)
