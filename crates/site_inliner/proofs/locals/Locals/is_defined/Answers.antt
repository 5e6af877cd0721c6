use Rattle.std.proofs.Common.{ap, ◌∙◌}
use Rattle.ir_core.specs.Parts.{is_defined}
use Rattle.site_inliner.proofs.NamesOnce.{defined_found}
use Rattle.site_inliner.specs.Parts.{Part}
use Rattle.site_inliner.proofs.locals.Locals.is_defined.Goals as goal

pub returns : goal.returns
returns c = c.has.ensures ∙ defined_found c.self.inside.source.now c.self.inside.funcs.now c.args.name c.self.invariant.6 ∙ ap (λ (p : Part). is_defined p.source c.args.name) c.self.view_is
