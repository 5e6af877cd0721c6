use Rattle.std.proofs.Common.{ap, ◌∙◌}
use Rattle.std.specs.List.{filter_map}
use Rattle.site_inliner.specs.Parts.{instr_phi, instr_row}
use Rattle.site_inliner.proofs.Made.{block_made}
use Rattle.site_inliner.proofs.locals.Locals.flat_block.Goals as goal

pub returns : goal.returns
returns c =
    let p = c.args.self.now in
    block_made p c.args.source.now c.in_ok-phis.phis c.in_ok-code.code c.in_ok-end.end (c.in_ok-phis.ensures ∙ ap (filter_map (instr_phi p)) c.as_slice.ensures)
    (c.in_ok-code.ensures ∙ ap (filter_map (instr_row p)) c.as_slice-2.ensures) c.in_ok-end.ensures
