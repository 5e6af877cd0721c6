use Rattle.std.proofs.Common.{◌≡◌, ◌++◌}
use Rattle.rv_select.specs.Lowered.{keep_parameters}
use Rattle.rv_select.proofs.selecting.push_parameters.Given as goal

abbrev pub invariant-loop-p : goal.invariant-loop-p
invariant-loop-p l = l.code ≡ l.fn.code ++ keep_parameters l.f l.p
