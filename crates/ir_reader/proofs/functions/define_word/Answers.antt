use Rattle.std.proofs.Common.{sym, ◌∙◌}
use Rattle.ir_reader.proofs.Heads.{define_refused}
use Rattle.ir_reader.proofs.functions.define_word.Goals as goal

pub returns-then-not-is_word : goal.returns-then-not-is_word
returns-then-not-is_word c = define_refused c.args.so_many c.args.reader.now.names c.args.reader.now.tokens c.fault.result (sym c.is_word.ensures ∙ c.if-not-is_word.true) c.fault.ensures
