use Rattle.std.proofs.Common.{◌≡◌, replicate, []}
use Rattle.ir_assigned.proofs.graph.nothing_before.Given as goal

abbrev pub invariant-loop-b : goal.invariant-loop-b
invariant-loop-b l = l.before.items ≡ replicate l.b []
