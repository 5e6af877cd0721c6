use Rattle.std.proofs.Common.{◌≡◌, drop}
use Rattle.std.specs.List.{flat_map}
use Rattle.module_rules.specs.Faults.{with_numbers, numbers_of}
use Rattle.ir_verifier.specs.TypeFaults.{param_of}
use Rattle.ir_verifier.proofs.registers.params_of.Given as goal

abbrev pub invariant-loop-param : goal.invariant-loop-param
invariant-loop-param l = with_numbers l.numbers (flat_map (param_of l.t) (drop l.param-index l.params)) ≡ numbers_of (flat_map (param_of l.t) l.params)
