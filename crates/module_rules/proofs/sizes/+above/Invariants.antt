use Rattle.std.proofs.Common.{◌≡◌, drop}
use Rattle.std.specs.List.{list_any}
use Rattle.module_rules.specs.SizeFaults.{has_above}
use Rattle.module_rules.proofs.sizes.+above.Given as goal

abbrev pub invariant-any_has_above-loop-t : goal.invariant-any_has_above-loop-t
invariant-any_has_above-loop-t l =
    list_any (has_above l.m.types.defs) (drop l.t-index l.types) ≡ list_any (has_above l.m.types.defs) l.types
