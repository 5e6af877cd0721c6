use Rattle.local_passes.specs.DropDead.{used_by_act}
use Rattle.local_passes.proofs.NeedMarks.{item_at, marks_part}
use Rattle.local_passes.proofs.acts.mark_code.Goals as goal

pub loop-instr-preserved : goal.loop-instr-preserved
loop-instr-preserved c = marks_part c.args.needs.now c.loop-instr.needs c.mark_act.new.needs used_by_act c.args.code.now c.loop-instr.instr-index c.instr-item.result (item_at c.args.code.now c.loop-instr.instr-index c.instr-item.result c.loop-instr-test.true c.instr-item.is) c.loop-instr.invariant c.in_ok-mark_act.ensures
