use Rattle.std.proofs.Common.{List, map, sym, ap, ◌∙◌}
use Rattle.ir_core.specs.declared.flat.Case.{Case}
use Rattle.ir_core.specs.declared.flat.FlatEnd.TheVariants.{Switch}
use Rattle.ir_core.specs.Constants.{width_of}
use Rattle.site_inliner.specs.Parts.{typed_in, block_in, case_in, end_in}
use Rattle.site_inliner.proofs.Made.{switch_made}
use Rattle.site_inliner.proofs.locals.Locals.end.Goals as goal

pub returns-in_ok-cases-in-Switch : goal.returns-in_ok-cases-in-Switch
returns-in_ok-cases-in-Switch c =
    let p = c.args.self.now in
    c.switch.ensures
    ∙ ap (λ (cs : List Case). Switch (typed_in p c.in-Switch.a) (width_of c.in-Switch.a.ty) cs (block_in p c.in-Switch.other)) (c.in_ok-cases-in-Switch.ensures ∙ ap (map (case_in p)) c.as_slice.ensures)
    ∙ switch_made p c.in-Switch.a c.in-Switch.other c.in-Switch.cases ∙ ap (end_in p) (sym c.in-Switch.is)
