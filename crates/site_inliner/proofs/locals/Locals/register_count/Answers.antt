use Rattle.std.proofs.Common.{length, ap, ◌∙◌}
use Rattle.ir_core.specs.Plain.{registers}
use Rattle.site_inliner.proofs.NamesOnce.{count_registers}
use Rattle.site_inliner.specs.Parts.{Part}
use Rattle.site_inliner.proofs.locals.Locals.register_count.Goals as goal

pub returns : goal.returns
returns c = ap length (c.as_slice.ensures ∙ c.self.invariant.0) ∙ count_registers c.self.inside.func.now ∙ ap (λ (p : Part). length (registers p.func)) c.self.view_is
