use Rattle.std.proofs.Common.{◌∙◌}
use Rattle.inline_certificate.proofs.Numerals.{first_version, second_version, no_version, line_of_one, line_of_two}
use Rattle.inline_certificate.proofs.lines.version_of.Goals as goal

pub returns-then-eq : goal.returns-then-eq
returns-then-eq c = first_version c.args.line.now c.as_slice.result.now c.eq.result c.eq.ensures c.if-eq.true (c.as_slice.ensures ∙ line_of_one)

pub returns-then-eq-2 : goal.returns-then-eq-2
returns-then-eq-2 c = second_version c.args.line.now c.as_slice-2.result.now c.eq-2.result c.eq-2.ensures c.if-eq-2.true (c.as_slice-2.ensures ∙ line_of_two)

pub returns : goal.returns
returns c = no_version c.args.line.now c.as_slice.result.now c.as_slice-2.result.now c.eq.result c.eq-2.result c.eq.ensures c.if-eq.false (c.as_slice.ensures ∙ line_of_one) c.eq-2.ensures c.if-eq-2.false (c.as_slice-2.ensures ∙ line_of_two)
