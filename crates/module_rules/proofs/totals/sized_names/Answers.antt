use Rattle.std.proofs.Common.{◌++◌, sym, ap, ◌∙◌, map, List}
use Rattle.ir_core.specs.declared.func.Func.{Func}
use Rattle.ir_core.specs.declared.module.GlobalVar.{GlobalVar}
use Rattle.module_rules.specs.declared.totals.Name.{Name}
use Rattle.module_rules.specs.TotalFaults.{sized}
use Rattle.module_rules.proofs.NameSums.{names_listed}
use Rattle.module_rules.proofs.totals.sized_names.Goals as goal

pub returns : goal.returns
returns c =
    let m = c.args.m.now in
    c.in_ok-add_funcs.ensures
    ∙ ap (λ (ns : List Name). ns ++ map (λ (f : Func). sized m (record { name = f.name; place = f.place })) c.as_slice-2.result.now)
    (c.in_ok-add_globals.ensures ∙ ap (λ (ns : List Name). ns ++ map (λ (g : GlobalVar). sized m (record { name = g.name; place = g.place })) c.as_slice.result.now) c.new-names.ensures.items
    ∙ ap (map (λ (g : GlobalVar). sized m (record { name = g.name; place = g.place }))) c.as_slice.ensures)
    ∙ ap (λ (fs : List Func). map (λ (g : GlobalVar). sized m (record { name = g.name; place = g.place })) m.globals ++ map (λ (f : Func). sized m (record { name = f.name; place = f.place })) fs) c.as_slice-2.ensures
    ∙ sym (names_listed m)
