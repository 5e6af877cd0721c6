use Rattle.local_passes.proofs.NeedMarks.{marks_next}
use Rattle.std.proofs.lemmas.Option.{slice_get-get_or}
use Rattle.local_passes.proofs.needs.Needs.mark_all.Goals as goal

pub loop-o-preserved : goal.loop-o-preserved
loop-o-preserved c = marks_next c.args.self.now c.loop-o.self c.mark.new.self c.args.operands.now c.loop-o.o-index _ (slice_get-get_or c.args.operands.now c.loop-o.o-index _ c.loop-o-test.true) c.loop-o.invariant c.in_ok-mark.ensures
