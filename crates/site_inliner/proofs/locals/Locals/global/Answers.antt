use Rattle.std.proofs.Common.{ap, ◌∙◌}
use Rattle.ir_core.specs.Constants.{global_number as global_position}
use Rattle.site_inliner.proofs.NamesOnce.{global_found}
use Rattle.site_inliner.specs.Parts.{Part}
use Rattle.site_inliner.proofs.locals.Locals.global.Goals as goal

pub returns : goal.returns
returns c = c.number_in.ensures ∙ global_found c.self.inside.source.now c.self.inside.globals.now c.args.name c.self.invariant.4 ∙ ap (λ (p : Part). global_position p.source c.args.name) c.self.view_is
