use Rattle.std.proofs.Common.{map, Some, sym, ap, ◌∙◌}
use Rattle.site_inliner.specs.Parts.{entry_in, phi_in}
use Rattle.site_inliner.proofs.Made.{phi_made}
use Rattle.site_inliner.proofs.locals.Locals.phi_with_result.Goals as goal

pub returns-in_ok-entries-in-Phi : goal.returns-in_ok-entries-in-Phi
returns-in_ok-entries-in-Phi c =
    let p = c.args.self.now in
    phi_made p c.args.name c.in-Phi.t c.in-Phi.pairs c.register-reg.result c.in_ok-entries-in-Phi.entries c.register-reg.ensures
    (c.in_ok-entries-in-Phi.ensures ∙ ap (map (entry_in p c.in-Phi.t)) c.as_slice.ensures)
    ∙ ap (phi_in p (Some c.args.name)) (sym c.in-Phi.is)
