use Rattle.std.proofs.Common.{arith}
use Rattle.std.proofs.lemmas.Bool.Decides.{nat_tests}
use Rattle.inline_certificate.proofs.FaultLines.{no_second_line, no_number, head_stated}
use Rattle.inline_certificate.proofs.heads.read_head.Goals as goal

pub returns-then-is_empty-2 : goal.returns-then-is_empty-2
returns-then-is_empty-2 c candidates = no_second_line candidates c.args.bytes.now c.first_line.result.0.now c.first_line.result.1.now c.in-Some.version c.first_line.ensures c.in-Some.ensures (grind (arith, nat_tests))

pub returns-in_default-stated_text : goal.returns-in_default-stated_text
returns-in_default-stated_text c candidates = no_number candidates c.args.bytes.now c.first_line.result.0.now c.first_line.result.1.now c.first_line-2.result.0.now c.first_line-2.result.1.now c.in-Some.version c.first_line.ensures c.in-Some.ensures c.first_line-2.ensures c.in_default-stated_text.ensures

pub returns : goal.returns
returns c = head_stated c.args.bytes.now c.first_line.result.0.now c.first_line.result.1.now c.first_line-2.result.0.now _ c.first_line.ensures c.in-Some.ensures c.first_line-2.ensures c.in-Some-stated_text.ensures
