use Rattle.std.proofs.Common.{take}
use Rattle.ir_assigned.specs.Graph.{Joins}
use Rattle.ir_assigned.proofs.graph.join_all.Given as goal

abbrev pub invariant-loop-target : goal.invariant-loop-target
invariant-loop-target l = Joins l.labels l.a (take l.target-index l.targets) l.initial.before.items l.before.items
