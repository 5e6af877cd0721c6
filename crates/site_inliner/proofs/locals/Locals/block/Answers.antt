use Rattle.std.proofs.Common.{ap, ◌∙◌}
use Rattle.site_inliner.proofs.NamesOnce.{block_at}
use Rattle.site_inliner.specs.Parts.{Part, block_in}
use Rattle.site_inliner.proofs.locals.Locals.block.Goals as goal

pub returns : goal.returns
returns c = block_at (record { source = c.self.inside.source.now; func = c.self.inside.func.now }) c.self.inside.labels c.args.label c.number_in.result c.number_in.ensures c.self.invariant.2 ∙ ap (λ (p : Part). block_in p c.args.label) c.self.view_is
