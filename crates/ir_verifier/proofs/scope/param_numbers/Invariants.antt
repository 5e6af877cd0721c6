use Rattle.std.proofs.Common.{◌≡◌, drop, map}
use Rattle.module_rules.specs.Faults.{with_numbers, numbers_of}
use Rattle.ir_verifier.specs.Faults.{param_number}
use Rattle.ir_verifier.proofs.scope.param_numbers.Given as goal

abbrev pub invariant-loop-param : goal.invariant-loop-param
invariant-loop-param l = with_numbers l.numbers (map param_number (drop l.param-index l.params)) ≡ numbers_of (map param_number l.params)
