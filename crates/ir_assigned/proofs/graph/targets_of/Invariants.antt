use Rattle.std.proofs.Common.{◌≡◌, ◌-◌, length, take}
use Rattle.ir_core.specs.Parts.{targets}
use Rattle.ir_assigned.proofs.graph.targets_of.Given as goal

abbrev pub invariant-loop-label : goal.invariant-loop-label
invariant-loop-label l = l.labels.items ≡ take l.at (targets l.end)

abbrev pub decreases-loop-label : goal.decreases-loop-label
decreases-loop-label l = length (targets l.end) - l.at
