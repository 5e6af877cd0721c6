use Rattle.std.proofs.Common.{◌&&◌, ◌==◌, if◌then◌else◌, Some, ◌∙◌, ap}
use Rattle.rv_select.specs.Incoming.{value_at}
use Rattle.rv_select.proofs.incoming.Incoming.set.Goals as goal

pub returns : goal.returns
returns c = λ b p n. c.in_ok-insert.ensures.updates.0 (b, p, n) ∙ ap (λ values. if c.args.to == b && c.args.position == p && c.args.from == n then Some c.args.value else value_at values b p n) c.self.view_is
