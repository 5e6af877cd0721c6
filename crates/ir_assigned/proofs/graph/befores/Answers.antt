use Rattle.std.proofs.Common.{subst, ◌∙◌, arith}
use Rattle.ir_assigned.specs.Graph.{Joins}
use Rattle.ir_assigned.proofs.Tables.{read_item}
use Rattle.ir_assigned.proofs.Joining.{befores_more}
use Rattle.ir_assigned.proofs.graph.befores.Goals as goal

pub loop-a-preserved : goal.loop-a-preserved
loop-a-preserved c =
    befores_more c.args.func.now c.args.labels.now c.requires.labels c.requires.apart c.loop-a.a c.block-item.result
    (read_item c.as_slice-block-items.result.now c.args.func.now.blocks c.loop-a.a c.block-item.result c.as_slice-block-items.ensures (omega arith) c.block-item.is)
    c.loop-a.before.items c.join_all.new.before.items c.loop-a.invariant
    (subst (λ ts. Joins c.args.labels.now c.loop-a.a ts c.loop-a.before.items c.join_all.new.before.items) (c.as_slice.ensures.value ∙ c.in_ok-targets.ensures) c.in_ok-join_all.ensures)
