use Rattle.std.proofs.Common.{◌≡◌, ◌++◌, map, drop}
use Rattle.ir_core.specs.declared.func.Func.{Func}
use Rattle.module_rules.specs.TotalFaults.{sized}
use Rattle.module_rules.proofs.totals.add_funcs.Given as goal

abbrev pub invariant-loop-func : goal.invariant-loop-func
invariant-loop-func l =
    l.names.items ++ map (λ (f : Func). sized l.m (record { name = f.name; place = f.place })) (drop l.func-index l.funcs)
    ≡ l.fn.names.items ++ map (λ (f : Func). sized l.m (record { name = f.name; place = f.place })) l.funcs
