use Rattle.std.proofs.Common.{map, Some, sym, ap, ◌∙◌}
use Rattle.std.specs.Option.{option_map}
use Rattle.ir_core.specs.Instructions.{call}
use Rattle.site_inliner.specs.Parts.{reg_in, typed_in, row_in}
use Rattle.site_inliner.proofs.Made.{row_call}
use Rattle.site_inliner.proofs.locals.Locals.row_with_result.Goals as goal

pub returns-in_ok-call-in-Call : goal.returns-in_ok-call-in-Call
returns-in_ok-call-in-Call c =
    let p = c.args.self.now in
    ap Some (c.in_ok-call-in-Call.ensures ∙ ap (λ as'. call p.source (option_map (reg_in p) (Some c.args.name)) c.in-Call.callee (map (typed_in p) as')) c.as_slice-in-Call.ensures)
    ∙ row_call p (Some c.args.name) c.in-Call.field-0 c.in-Call.callee c.in-Call.args ∙ ap (row_in p (Some c.args.name)) (sym c.in-Call.is)
