use Rattle.std.proofs.Common.{◌-◌, take, length}
use Rattle.ir_core.specs.Formed.{targets}
use Rattle.flow_fold.specs.Walks.{Marks}
use Rattle.flow_fold.proofs.walk.Walk.mark_targets.Given as goal

abbrev pub invariant-loop-b : goal.invariant-loop-b
invariant-loop-b l = Marks l.initial.self l.self (take l.at (targets l.end))

abbrev pub decreases-loop-b : goal.decreases-loop-b
decreases-loop-b l = length (targets l.end) - l.at
