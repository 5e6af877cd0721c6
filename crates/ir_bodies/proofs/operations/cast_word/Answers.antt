use Rattle.ir_core.specs.Opcodes.{cast_words}
use Rattle.ir_phrases.proofs.WordLists.{named_verdict}
use Rattle.ir_bodies.proofs.operations.cast_word.Goals as goal

pub returns : goal.returns
returns c = named_verdict cast_words c.args.word.now c.from_text.result c.from_text.ensures
