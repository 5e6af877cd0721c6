use Rattle.std.proofs.Common.{ap, ◌∙◌}
use Rattle.ir_core.specs.Instructions.{func_number as function_number}
use Rattle.site_inliner.proofs.NamesOnce.{func_found}
use Rattle.site_inliner.specs.Parts.{Part}
use Rattle.site_inliner.proofs.locals.Locals.callee.Goals as goal

pub returns : goal.returns
returns c = c.number_in.ensures ∙ func_found c.self.inside.source.now c.self.inside.funcs.now c.args.name c.self.invariant.6 ∙ ap (λ (p : Part). function_number p.source c.args.name) c.self.view_is
