use Rattle.std.proofs.Common.{◌≡◌, drop, map}
use Rattle.module_rules.specs.Faults.{with_numbers, numbers_of}
use Rattle.ir_verifier.specs.CallFaults.{declared_number}
use Rattle.ir_verifier.proofs.callees.declaration_numbers.Given as goal

abbrev pub invariant-loop-declaration : goal.invariant-loop-declaration
invariant-loop-declaration l = with_numbers l.numbers (map declared_number (drop l.declaration-index l.declared)) ≡ numbers_of (map declared_number l.declared)
