use Rattle.std.proofs.Common.{◌≡◌, drop}
use Rattle.std.specs.List.{flat_map}
use Rattle.module_rules.specs.TypeFaults.{state, with_uses, global_uses}
use Rattle.module_rules.proofs.type_uses.add_globals.Given as goal

abbrev pub invariant-loop-global : goal.invariant-loop-global
invariant-loop-global l =
    with_uses (state l.to) (flat_map global_uses (drop l.global-index l.globals))
    ≡ with_uses (state l.fn.to) (flat_map global_uses l.globals)
