use Rattle.std.proofs.Common.{◌≡◌, drop, map}
use Rattle.ir_core.specs.declared.module.GlobalVar.{GlobalVar}
use Rattle.ir_core.specs.ValidModule.{Introduced}
use Rattle.module_rules.specs.SymbolFaults.{with_symbols}
use Rattle.module_rules.proofs.symbols.add_globals.Given as goal

abbrev pub invariant-loop-global : goal.invariant-loop-global
invariant-loop-global l =
    with_symbols l.to (map {B = Introduced} (λ (x : GlobalVar). record { name = x.name; place = x.place }) (drop l.global-index l.globals))
    ≡ with_symbols l.fn.to (map {B = Introduced} (λ (x : GlobalVar). record { name = x.name; place = x.place }) l.globals)
