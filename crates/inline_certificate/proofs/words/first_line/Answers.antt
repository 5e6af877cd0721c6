use Rattle.inline_certificate.proofs.TextLines.{cut_at}
use Rattle.inline_certificate.proofs.words.first_line.Goals as goal

pub returns : goal.returns
returns c = cut_at c.args.bytes.now c.split_at.result.0.now c.split_at.result.1.now c.line_end.result c.requires c.line_end.ensures.end c.split_at.ensures.front c.split_at.ensures.back
