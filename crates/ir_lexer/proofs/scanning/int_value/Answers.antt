use Rattle.std.proofs.Common.{◌≡◌}
use Rattle.ir_lexer.proofs.Numbers.{is_utf8, is_text, is_read}
use Rattle.ir_lexer.proofs.scanning.int_value.Goals as goal

pub unwrap-requires : goal.unwrap-requires
unwrap-requires c = is_text c.from_utf8.result _ _ _ c.from_utf8.ensures.cases (is_utf8 c.args.run.now c.requires.int)

pub unwrap-requires-2 : goal.unwrap-requires-2
unwrap-requires-2 c =
    let same : c.unwrap.result.now ≡ c.args.run.now = (rw c.unwrap.ensures at c.from_utf8.ensures.cases).0 in
    is_read c.args.run.now c.parse.result (rw same at c.parse.ensures.value.0) c.requires.int c.requires.short
