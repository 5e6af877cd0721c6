use Rattle.std.specs.Prelude.{map}
use Rattle.ir_core.specs.declared.opcodes.TheConstants.{BIN_OPS, CAST_OPS}
use Rattle.ir_core.specs.Opcodes.{bin_text, cast_text}
use Rattle.ir_phrases.specs.CodeWords.{choice_words, line_words}
use Rattle.ir_phrases.proofs.WordLists.{four_lists}
use Rattle.ir_phrases.proofs.words.begins_code.Goals as goal

pub returns : goal.returns
returns c = four_lists (map bin_text BIN_OPS) choice_words (map cast_text CAST_OPS) line_words c.args.word.now c.any_of.result c.is_operation.result c.is_conversion.result c.begins_other_code.result c.any_of.ensures c.is_operation.ensures c.is_conversion.ensures c.begins_other_code.ensures
