use Rattle.std.proofs.Common.{◌∙◌}
use Rattle.ir_core.specs.declared.opcodes.TheConstants.{CAST_OPS}
use Rattle.ir_core.specs.Opcodes.{cast_text}
use Rattle.ir_phrases.proofs.WordLists.{is_named}
use Rattle.ir_phrases.proofs.words.is_conversion.Goals as goal

pub returns : goal.returns
returns c = c.is_some.ensures ∙ rw c.from_text.ensures (is_named cast_text CAST_OPS c.args.word.now)
