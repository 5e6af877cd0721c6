use Rattle.ir_core.specs.Opcodes.{bin_words}
use Rattle.ir_phrases.proofs.WordLists.{named_verdict}
use Rattle.ir_bodies.proofs.operations.bin_word.Goals as goal

pub returns : goal.returns
returns c = named_verdict bin_words c.args.word.now c.from_text.result c.from_text.ensures
