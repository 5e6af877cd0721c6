use Rattle.std.proofs.Common.{◌≡◌, ◌++◌, drop}
use Rattle.module_rules.specs.TypeFaults.{emptied_defs}
use Rattle.module_rules.proofs.struct_names.emptied_defs.Given as goal

abbrev pub invariant-loop-def : goal.invariant-loop-def
invariant-loop-def l = l.emptied ++ emptied_defs (drop l.def-index l.defs) ≡ emptied_defs l.defs
