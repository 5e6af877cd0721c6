use Rattle.std.proofs.Common.{ap, ◌∙◌}
use Rattle.site_inliner.proofs.NamesOnce.{reg_at}
use Rattle.site_inliner.specs.Parts.{Part, reg_in}
use Rattle.site_inliner.proofs.locals.Locals.register.Goals as goal

pub returns : goal.returns
returns c = reg_at (record { source = c.self.inside.source.now; func = c.self.inside.func.now }) c.self.inside.registers c.args.name c.number_in.result c.number_in.ensures c.self.invariant.0 ∙ ap (λ (p : Part). reg_in p c.args.name) c.self.view_is
