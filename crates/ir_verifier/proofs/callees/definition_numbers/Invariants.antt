use Rattle.std.proofs.Common.{◌≡◌, drop, map}
use Rattle.module_rules.specs.Faults.{with_numbers, numbers_of}
use Rattle.ir_verifier.specs.CallFaults.{func_number}
use Rattle.ir_verifier.proofs.callees.definition_numbers.Given as goal

abbrev pub invariant-loop-func : goal.invariant-loop-func
invariant-loop-func l = with_numbers l.numbers (map func_number (drop l.func-index l.funcs)) ≡ numbers_of (map func_number l.funcs)
