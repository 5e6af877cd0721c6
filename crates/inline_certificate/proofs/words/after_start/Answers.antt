use Rattle.inline_certificate.proofs.TextLines.{no_start}
use Rattle.inline_certificate.proofs.words.after_start.Goals as goal

pub returns-else-eq : goal.returns-else-eq
returns-else-eq c = no_start c.args.text.now c.args.start.now c.split_at.result.0.now c.eq.result c.split_at.ensures.front c.eq.ensures c.if-eq.false
