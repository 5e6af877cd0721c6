use Rattle.std.proofs.Common.{◌≡◌, map, drop}
use Rattle.module_rules.specs.Faults.{with_numbers}
use Rattle.module_rules.specs.TypeFaults.{type_number}
use Rattle.module_rules.proofs.type_uses.add_names.Given as goal

abbrev pub invariant-loop-name : goal.invariant-loop-name
invariant-loop-name l = with_numbers l.to (map type_number (drop l.name-index l.names)) ≡ with_numbers l.fn.to (map type_number l.names)
