use Rattle.std.proofs.Common.{◌≡◌, drop}
use Rattle.std.specs.List.{flat_map}
use Rattle.module_rules.specs.First.{earliest}
use Rattle.optinline.specs.Unbuilt.{func_unbuilt}
use Rattle.optinline.proofs.unbuilt.in_funcs.Given as goal

abbrev pub invariant-loop-func : goal.invariant-loop-func
invariant-loop-func l =
    earliest l.first (flat_map (func_unbuilt l.m) (drop l.func-index l.funcs))
    ≡ earliest l.fn.before (flat_map (func_unbuilt l.m) l.funcs)
