use Rattle.std.proofs.Common.{◌≡◌, drop}
use Rattle.std.specs.List.{list_any}
use Rattle.module_rules.specs.TypeFaults.{has_void}
use Rattle.module_rules.proofs.type_parts.+voids.Given as goal

abbrev pub invariant-any_has_void-loop-t : goal.invariant-any_has_void-loop-t
invariant-any_has_void-loop-t l = list_any has_void (drop l.t-index l.types) ≡ list_any has_void l.types
