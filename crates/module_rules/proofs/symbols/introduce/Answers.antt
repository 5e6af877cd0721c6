use Rattle.ir_core.specs.declared.module.GlobalVar.{GlobalVar}
use Rattle.ir_core.specs.declared.module.Declaration.{Declaration}
use Rattle.ir_core.specs.declared.func.Func.{Func}
use Rattle.module_rules.proofs.SymbolLaws.{added}
use Rattle.module_rules.proofs.symbols.introduce.Goals as goal

pub returns : goal.returns
returns c =
    added (λ (d : Declaration). record { name = d.name; place = d.place }) _ _ _ _ _ c.in_ok-add_declared.ensures
    (added (λ (f : Func). record { name = f.name; place = f.place }) _ _ _ _ _ c.in_ok-add_funcs.ensures
    (added (λ (g : GlobalVar). record { name = g.name; place = g.place }) _ _ _ _ _ c.in_ok-add_globals.ensures c.new-symbols.ensures c.as_slice.ensures)
    c.as_slice-2.ensures)
    c.as_slice-3.ensures
