use Rattle.std.proofs.Common.{◌≡◌, Ok, ◌∙◌, sym, subst, arith}
use Rattle.std.specs.Prelude.{IsUtf8}
use Rattle.std.proofs.lemmas.Fmt.{parse-decimal, IsAscii-decimal}
use Rattle.std.proofs.lemmas.Str.{IsUtf8-from_ascii}
use Rattle.decisions.proofs.reading.number.Goals as goal

pub returns-in-Ok-parse : goal.returns-in-Ok-parse
returns-in-Ok-parse c n lt e =
    let r = parse-decimal 32 n c.in-Ok.text.now c.parse.result lt (omega arith) (c.in-Ok.ensures.cases.0 ∙ e) c.parse.ensures.value.0 in
    let same : c.parse.result ≡ Ok n = r in
    cc c.in-Ok-parse.is

pub returns-in-Err-parse : goal.returns-in-Err-parse
returns-in-Err-parse c n lt e =
    let r = parse-decimal 32 n c.in-Ok.text.now c.parse.result lt (omega arith) (c.in-Ok.ensures.cases.0 ∙ e) c.parse.ensures.value.0 in
    let same : c.parse.result ≡ Ok n = r in
    cc c.in-Err-parse.is

pub returns-in-Err : goal.returns-in-Err
returns-in-Err c n lt e = absurd (c.in-Err.ensures.cases.0 (subst IsUtf8 (sym e) (IsUtf8-from_ascii _ (IsAscii-decimal n (omega arith)))))
