use Rattle.std.proofs.Common.{◌≡◌, map, drop}
use Rattle.module_rules.specs.TypeFaults.{state, with_uses, def_use}
use Rattle.module_rules.proofs.type_uses.add_defs.Given as goal

abbrev pub invariant-loop-def : goal.invariant-loop-def
invariant-loop-def l =
    with_uses (state l.to) (map def_use (drop l.def-index l.defs))
    ≡ with_uses (state l.fn.to) (map def_use l.defs)
