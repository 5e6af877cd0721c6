use Rattle.std.proofs.Common.{◌⊎◌}
use Rattle.oi_base.specs.declared.ids.Place.{Place}
use Rattle.module_rules.specs.First.{IsFound}
use Rattle.module_rules.specs.TypeFaults.{BreaksUses}
use Rattle.module_rules.specs.Cycles.{IsItselfAmong}
use Rattle.module_rules.proofs.cycles.first_itself.Given as goal

abbrev pub invariant-loop-def : goal.invariant-loop-def
invariant-loop-def l = IsFound (λ (p : Place). BreaksUses l.m p ⊎ IsItselfAmong l.m.types.defs l.def-index p) l.first
