use Rattle.std.proofs.Common.{sym, subst}
use Rattle.ir_core.specs.Formed.{used_by}
use Rattle.ir_core.proofs.ByPosition.{take_all}
use Rattle.local_passes.specs.NeedTables.{Marks}
use Rattle.local_passes.proofs.NeedMarks.{marks_next}
use Rattle.local_passes.proofs.acts.mark_operands.Goals as goal

pub loop-o-preserved : goal.loop-o-preserved
loop-o-preserved c = marks_next c.args.needs.now c.loop-o.needs c.mark.new.self (used_by c.args.i.now) c.loop-o.at c.in-Some.o (sym c.in-Some.ensures.value) c.loop-o.invariant c.in_ok-mark.ensures

pub returns : goal.returns
returns c = subst (Marks c.args.needs.now c.loop-o.needs) (take_all (used_by c.args.i.now) c.loop-o.at (sym c.in_default.ensures.value)) c.loop-o.invariant
