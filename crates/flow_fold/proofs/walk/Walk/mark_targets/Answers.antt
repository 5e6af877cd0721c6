use Rattle.std.proofs.Common.{◌+◌, take, refl, sym, subst}
use Rattle.ir_core.specs.Formed.{targets}
use Rattle.ir_core.proofs.ByPosition.{take_next, take_all}
use Rattle.flow_fold.specs.Walks.{Marks}
use Rattle.flow_fold.proofs.Marking.{marks_more}
use Rattle.flow_fold.proofs.walk.Walk.mark_targets.Goals as goal

pub loop-b-preserved : goal.loop-b-preserved
loop-b-preserved c = subst (Marks c.args.self.now c.mark.new.self) (sym (take_next (targets c.args.end.now) c.loop-b.at (c.loop-b.at + 1) c.in-Some.b.0 refl (sym c.in-Some.ensures.value))) (marks_more c.args.self.now c.loop-b.self c.mark.new.self (take c.loop-b.at (targets c.args.end.now)) c.in-Some.b.0 c.loop-b.invariant c.in_ok-mark.ensures)

pub returns : goal.returns
returns c = subst (Marks c.args.self.now c.loop-b.self) (take_all (targets c.args.end.now) c.loop-b.at (sym c.in_default.ensures.value)) c.loop-b.invariant
