use Rattle.std.proofs.Common.{◌≡◌, [], drop}
use Rattle.module_rules.specs.First.{earliest}
use Rattle.module_rules.specs.TypeFaults.{again_faults}
use Rattle.module_rules.proofs.type_names.defined_again.Given as goal

abbrev pub invariant-loop-def : goal.invariant-loop-def
invariant-loop-def l = earliest l.first (again_faults l.used l.names (drop l.def-index l.defs)) ≡ earliest l.fn.before (again_faults l.used [] l.defs)
