use Rattle.std.proofs.Common.{◌≡◌, drop}
use Rattle.std.specs.List.{flat_map}
use Rattle.module_rules.specs.First.{earliest}
use Rattle.module_rules.specs.SizeFaults.{func_size_faults}
use Rattle.module_rules.proofs.sizes.in_funcs.Given as goal

abbrev pub invariant-loop-func : goal.invariant-loop-func
invariant-loop-func l =
    earliest l.first (flat_map (func_size_faults l.m.types.defs l.small) (drop l.func-index l.funcs))
    ≡ earliest l.fn.before (flat_map (func_size_faults l.m.types.defs l.small) l.funcs)
