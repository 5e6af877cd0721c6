use Rattle.std.proofs.Common.{◌≡◌, drop}
use Rattle.module_rules.specs.Cycles.{any_joined}
use Rattle.module_rules.proofs.cycles.any_joined.Given as goal

abbrev pub invariant-loop-y : goal.invariant-loop-y
invariant-loop-y l = any_joined l.marks l.x (drop l.y-index l.names) ≡ any_joined l.marks l.x l.names
