use Rattle.std.proofs.Common.{◌∙◌}
use Rattle.ir_core.specs.declared.opcodes.TheConstants.{BIN_OPS}
use Rattle.ir_core.specs.Opcodes.{bin_text}
use Rattle.ir_phrases.proofs.WordLists.{is_named}
use Rattle.ir_phrases.proofs.words.is_operation.Goals as goal

pub returns : goal.returns
returns c = c.is_some.ensures ∙ rw c.from_text.ensures (is_named bin_text BIN_OPS c.args.word.now)
