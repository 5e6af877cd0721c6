use Rattle.std.proofs.Common.{◌≡◌, ◌++◌, map, drop}
use Rattle.module_rules.specs.SizeFaults.{small_def, small_defs}
use Rattle.module_rules.proofs.sizes.small_defs.Given as goal

abbrev pub invariant-loop-def : goal.invariant-loop-def
invariant-loop-def l =
    l.small ++ map (small_def l.m.types.defs) (drop l.def-index l.m.types.defs) ≡ small_defs l.m.types.defs
