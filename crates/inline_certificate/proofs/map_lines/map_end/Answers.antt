use Rattle.std.proofs.Common.{sym, ◌∙◌}
use mathlib.Core.Bool.{false≢true}
use Rattle.inline_certificate.proofs.MapReading.{step}
use Rattle.inline_certificate.proofs.map_lines.map_end.Goals as goal

pub lines-preserved : goal.lines-preserved
lines-preserved c = step c.args.bytes.now c.lines.at c.lines.lines c.lines.rest.now c.first_line.result.0.now c.first_line.result.1.now c.lines.invariant c.first_line.ensures (λ is. false≢true (sym c.if-is_tree_line.false ∙ c.is_tree_line.ensures.1 is))
