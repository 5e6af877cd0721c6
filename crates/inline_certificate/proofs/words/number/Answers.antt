use Rattle.inline_certificate.proofs.Numerals.{not_plain, parsed, not_parsed, no_text}
use Rattle.inline_certificate.proofs.words.number.Goals as goal

pub returns-then-not-is_plain : goal.returns-then-not-is_plain
returns-then-not-is_plain c = not_plain c.args.word.now c.is_plain.result c.is_plain.ensures c.if-not-is_plain.true

pub returns-in-Ok-parse : goal.returns-in-Ok-parse
returns-in-Ok-parse c = parsed c.args.word.now c.in-Ok.text.now c.parse.result c.in-Ok-parse.n (c.is_plain.ensures.0 c.if-not-is_plain.false) c.in-Ok.ensures.cases.0 c.parse.ensures.value.0 c.in-Ok-parse.is

pub returns-in-Err-parse : goal.returns-in-Err-parse
returns-in-Err-parse c = not_parsed c.args.word.now c.in-Ok.text.now c.parse.result _ c.in-Ok.ensures.cases.0 c.parse.ensures.value.0 c.in-Err-parse.is

pub returns-in-Err : goal.returns-in-Err
returns-in-Err c = no_text c.args.word.now c.in-Err.ensures.cases.0
