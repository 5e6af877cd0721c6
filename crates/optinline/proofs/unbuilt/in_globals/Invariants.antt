use Rattle.std.proofs.Common.{◌≡◌, drop}
use Rattle.std.specs.List.{flat_map}
use Rattle.module_rules.specs.First.{earliest}
use Rattle.optinline.specs.Unbuilt.{global_unbuilt}
use Rattle.optinline.proofs.unbuilt.in_globals.Given as goal

abbrev pub invariant-loop-global : goal.invariant-loop-global
invariant-loop-global l =
    earliest l.first (flat_map global_unbuilt (drop l.global-index l.globals))
    ≡ earliest l.fn.before (flat_map global_unbuilt l.globals)
