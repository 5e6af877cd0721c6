use Rattle.std.proofs.Common.{◌≡◌, drop, map}
use Rattle.module_rules.specs.Faults.{with_numbers, numbers_of, global_number}
use Rattle.module_rules.proofs.variables.global_numbers.Given as goal

abbrev pub invariant-loop-global : goal.invariant-loop-global
invariant-loop-global l = with_numbers l.numbers (map global_number (drop l.global-index l.globals)) ≡ numbers_of (map global_number l.globals)
