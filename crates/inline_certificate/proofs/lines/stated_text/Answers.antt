use Rattle.inline_certificate.proofs.NodeLines.{text_needs_inside, text_needs_start}
use Rattle.inline_certificate.proofs.lines.stated_text.Goals as goal

pub returns-in_default : goal.returns-in_default
returns-in_default c = text_needs_inside c.args.line.now c.in_default.ensures

pub returns-in_default-after_start : goal.returns-in_default-after_start
returns-in_default-after_start c = text_needs_start c.args.line.now c.in-Some.rest.now c.in-Some.kind c.in-Some.ensures c.in_default-after_start.ensures
