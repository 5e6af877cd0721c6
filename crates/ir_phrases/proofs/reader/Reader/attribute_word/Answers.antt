use Rattle.std.proofs.Common.{sym}
use Rattle.ir_grammar.specs.Attributes.{attribute_word_of}
use Rattle.ir_phrases.proofs.WordsRead.{word_refused}
use Rattle.ir_phrases.proofs.reader.Reader.attribute_word.Goals as goal

pub returns-in_default-attribute_if : goal.returns-in_default-attribute_if
returns-in_default-attribute_if c = word_refused (attribute_word_of c.args.barred) c.in-Some.word.now c.args.self.now.names c.args.self.now.tokens c.fault-in_default-attribute_if.result (sym c.in-Some.ensures) c.in_default-attribute_if.ensures c.fault-in_default-attribute_if.ensures
