use Rattle.std.proofs.Common.{◌≡◌, ◌++◌, map, drop}
use Rattle.ir_core.specs.declared.module.GlobalVar.{GlobalVar}
use Rattle.module_rules.specs.TotalFaults.{sized}
use Rattle.module_rules.proofs.totals.add_globals.Given as goal

abbrev pub invariant-loop-global : goal.invariant-loop-global
invariant-loop-global l =
    l.names.items ++ map (λ (g : GlobalVar). sized l.m (record { name = g.name; place = g.place })) (drop l.global-index l.globals)
    ≡ l.fn.names.items ++ map (λ (g : GlobalVar). sized l.m (record { name = g.name; place = g.place })) l.globals
