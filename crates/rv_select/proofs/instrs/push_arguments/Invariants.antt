use Rattle.std.proofs.Common.{◌≡◌, ◌++◌, drop}
use Rattle.rv_select.specs.Lowered.{arguments}
use Rattle.rv_select.proofs.instrs.push_arguments.Given as goal

abbrev pub invariant-loop-n : goal.invariant-loop-n
invariant-loop-n l = l.code ++ arguments l.f l.n (drop l.n l.args) ≡ l.fn.code ++ arguments l.f 0 l.args
