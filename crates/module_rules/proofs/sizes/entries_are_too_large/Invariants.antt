use Rattle.std.proofs.Common.{◌≡◌, map, drop}
use Rattle.std.specs.List.{list_any}
use Rattle.ir_core.specs.declared.op.Pair.{Pair}
use Rattle.ir_core.specs.ValidTypes.{sources_in_values}
use Rattle.module_rules.specs.SizeFaults.{is_too_large}
use Rattle.module_rules.proofs.sizes.entries_are_too_large.Given as goal

abbrev pub invariant-loop-entry : goal.invariant-loop-entry
invariant-loop-entry l =
    list_any (is_too_large l.m.types.defs l.small) (sources_in_values (map (λ (e : Pair). e.value) (drop l.entry-index l.entries)))
    ≡ list_any (is_too_large l.m.types.defs l.small) (sources_in_values (map (λ (e : Pair). e.value) l.entries))
