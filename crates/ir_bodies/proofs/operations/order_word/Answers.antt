use Rattle.ir_core.specs.Opcodes.{order_words}
use Rattle.ir_phrases.proofs.WordLists.{named_verdict}
use Rattle.ir_bodies.proofs.operations.order_word.Goals as goal

pub returns : goal.returns
returns c = named_verdict order_words c.args.word.now c.from_text.result c.from_text.ensures
