use Rattle.std.proofs.Common.{◌-◌, length, take}
use Rattle.ir_core.specs.Formed.{used_by}
use Rattle.local_passes.specs.NeedTables.{Marks}
use Rattle.local_passes.proofs.acts.mark_operands.Given as goal

abbrev pub invariant-loop-o : goal.invariant-loop-o
invariant-loop-o l = Marks l.initial.needs l.needs (take l.at (used_by l.i))

abbrev pub decreases-loop-o : goal.decreases-loop-o
decreases-loop-o l = length (used_by l.i) - l.at
