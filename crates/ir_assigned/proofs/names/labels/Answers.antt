use Rattle.std.proofs.Common.{arith}
use Rattle.ir_assigned.proofs.Tables.{read_item, labels_more}
use Rattle.ir_assigned.proofs.names.labels.Goals as goal

pub loop-b-preserved : goal.loop-b-preserved
loop-b-preserved c =
    labels_more c.args.func.now c.loop-b.b c.block-item.result c.loop-b.table.items c.put.new.table.items c.loop-b.invariant
    (read_item c.as_slice-block-items.result.now c.args.func.now.blocks c.loop-b.b c.block-item.result c.as_slice-block-items.ensures (omega arith) c.block-item.is)
    c.in_ok-put.ensures.same c.in_ok-put.ensures.others
