use Rattle.std.proofs.Common.{◌≡◌, drop}
use Rattle.std.specs.List.{flat_map, list_any}
use Rattle.module_rules.specs.SizeFaults.{typed_const_sources}
use Rattle.module_rules.specs.SizeFaults.{is_too_large}
use Rattle.module_rules.proofs.sizes.+consts.Given as goal

abbrev pub invariant-consts_are_too_large-loop-constant : goal.invariant-consts_are_too_large-loop-constant
invariant-consts_are_too_large-loop-constant l =
    list_any (is_too_large l.m.types.defs l.small) (flat_map typed_const_sources (drop l.constant-index l.constants))
    ≡ list_any (is_too_large l.m.types.defs l.small) (flat_map typed_const_sources l.constants)
