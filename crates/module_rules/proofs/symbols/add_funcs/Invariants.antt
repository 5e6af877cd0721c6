use Rattle.std.proofs.Common.{◌≡◌, drop, map}
use Rattle.ir_core.specs.declared.func.Func.{Func}
use Rattle.ir_core.specs.ValidModule.{Introduced}
use Rattle.module_rules.specs.SymbolFaults.{with_symbols}
use Rattle.module_rules.proofs.symbols.add_funcs.Given as goal

abbrev pub invariant-loop-func : goal.invariant-loop-func
invariant-loop-func l =
    with_symbols l.to (map {B = Introduced} (λ (x : Func). record { name = x.name; place = x.place }) (drop l.func-index l.funcs))
    ≡ with_symbols l.fn.to (map {B = Introduced} (λ (x : Func). record { name = x.name; place = x.place }) l.funcs)
