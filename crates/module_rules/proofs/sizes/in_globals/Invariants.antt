use Rattle.std.proofs.Common.{◌≡◌, drop}
use Rattle.std.specs.List.{flat_map}
use Rattle.module_rules.specs.First.{earliest}
use Rattle.module_rules.specs.SizeFaults.{global_size_fault}
use Rattle.module_rules.proofs.sizes.in_globals.Given as goal

abbrev pub invariant-loop-global : goal.invariant-loop-global
invariant-loop-global l =
    earliest l.first (flat_map (global_size_fault l.m.types.defs l.small) (drop l.global-index l.globals))
    ≡ earliest l.fn.before (flat_map (global_size_fault l.m.types.defs l.small) l.globals)
