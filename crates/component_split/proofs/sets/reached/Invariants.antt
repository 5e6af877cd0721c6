use Rattle.std.proofs.Common.{◌≡◌, ◌++◌, drop}
use Rattle.component_split.specs.Over.{func_numbers, reached_from}
use Rattle.component_split.proofs.sets.reached.Given as goal

abbrev pub invariant-loop-f : goal.invariant-loop-f
invariant-loop-f l = func_numbers l.funcs.items ++ reached_from l.f (drop l.f l.g.funcs) ≡ reached_from 0 l.g.funcs
