use Rattle.std.proofs.Common.{◌≡◌, drop, map}
use Rattle.ir_core.specs.declared.module.Declaration.{Declaration}
use Rattle.ir_core.specs.ValidModule.{Introduced}
use Rattle.module_rules.specs.SymbolFaults.{with_symbols}
use Rattle.module_rules.proofs.symbols.add_declared.Given as goal

abbrev pub invariant-loop-declaration : goal.invariant-loop-declaration
invariant-loop-declaration l =
    with_symbols l.to (map {B = Introduced} (λ (x : Declaration). record { name = x.name; place = x.place }) (drop l.declaration-index l.declared))
    ≡ with_symbols l.fn.to (map {B = Introduced} (λ (x : Declaration). record { name = x.name; place = x.place }) l.declared)
