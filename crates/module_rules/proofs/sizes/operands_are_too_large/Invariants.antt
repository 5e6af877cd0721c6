use Rattle.std.proofs.Common.{◌≡◌, drop}
use Rattle.std.specs.List.{list_any}
use Rattle.ir_core.specs.Parts.{values_of}
use Rattle.ir_core.specs.ValidTypes.{sources_in_values}
use Rattle.module_rules.specs.SizeFaults.{is_too_large}
use Rattle.module_rules.proofs.sizes.operands_are_too_large.Given as goal

abbrev pub invariant-loop-operand : goal.invariant-loop-operand
invariant-loop-operand l =
    list_any (is_too_large l.m.types.defs l.small) (sources_in_values (values_of (drop l.operand-index l.operands)))
    ≡ list_any (is_too_large l.m.types.defs l.small) (sources_in_values (values_of l.operands))
