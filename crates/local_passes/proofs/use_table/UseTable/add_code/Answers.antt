use Rattle.ir_core.specs.Formed.{written_by, used_by}
use Rattle.local_passes.specs.DropDead.{if_same}
use Rattle.local_passes.proofs.NeedMarks.{item_at}
use Rattle.local_passes.proofs.UseTables.{adds_next}
use Rattle.local_passes.proofs.use_table.UseTable.add_code.Goals as goal

pub loop-instr-preserved : goal.loop-instr-preserved
loop-instr-preserved c =
    adds_next c.args.self.now c.loop-instr.self c.add_result.new.self (λ q i. if_same q (written_by i) (used_by i)) c.args.code.now c.loop-instr.instr-index c.instr-item.result (item_at c.args.code.now c.loop-instr.instr-index c.instr-item.result c.loop-instr-test.true c.instr-item.is) c.loop-instr.invariant c.in_ok-add_result.ensures
