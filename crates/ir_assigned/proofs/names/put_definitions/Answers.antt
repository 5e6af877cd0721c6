use Rattle.std.proofs.Common.{arith}
use Rattle.ir_assigned.proofs.Tables.{read_item, puts_more}
use Rattle.ir_assigned.proofs.names.put_definitions.Goals as goal

pub loop-at-preserved : goal.loop-at-preserved
loop-at-preserved c =
    puts_more c.args.b c.loop-at.at c.args.block.now c.instr-item.result c.args.table.now.items c.loop-at.table.items c.put_result.new.table.items c.loop-at.invariant
    (read_item c.as_slice-instr-items.result.now c.args.block.now.code c.loop-at.at c.instr-item.result c.as_slice-instr-items.ensures (omega arith) c.instr-item.is)
    c.in_ok-put_result.ensures
