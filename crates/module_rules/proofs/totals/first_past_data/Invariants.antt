use Rattle.std.proofs.Common.{◌+◌, ◌≡◌, min, take}
use Rattle.ir_core.specs.declared.limits.TheConstants.{MOST_DATA}
use Rattle.ir_core.specs.ValidModule.{data_end}
use Rattle.module_rules.specs.First.{IsFound}
use Rattle.module_rules.specs.TotalFaults.{AreDataPast}
use Rattle.module_rules.proofs.totals.first_past_data.Given as goal

abbrev pub invariant-loop-global : goal.invariant-loop-global
invariant-loop-global l =
    (l.end ≡ min (data_end l.m.types.defs (take l.global-index l.m.globals)) (MOST_DATA + 1))
    × IsFound (AreDataPast l.m.types.defs (take l.global-index l.m.globals)) l.first
