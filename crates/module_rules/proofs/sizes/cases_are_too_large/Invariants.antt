use Rattle.std.proofs.Common.{◌≡◌, map, drop}
use Rattle.std.specs.List.{list_any}
use Rattle.ir_core.specs.declared.op.SwitchCase.{SwitchCase}
use Rattle.ir_core.specs.ValidTypes.{sources_in_values}
use Rattle.module_rules.specs.SizeFaults.{is_too_large}
use Rattle.module_rules.proofs.sizes.cases_are_too_large.Given as goal

abbrev pub invariant-loop-case : goal.invariant-loop-case
invariant-loop-case l =
    list_any (is_too_large l.m.types.defs l.small) (sources_in_values (map (λ (c : SwitchCase). c.value.value) (drop l.case-index l.cases)))
    ≡ list_any (is_too_large l.m.types.defs l.small) (sources_in_values (map (λ (c : SwitchCase). c.value.value) l.cases))
