use Rattle.ir_grammar.specs.Words.{left_out_words, never, barred_words}
use Rattle.ir_phrases.proofs.WordLists.{three_lists}
use Rattle.ir_phrases.proofs.words.is_no_attribute.Goals as goal

pub returns : goal.returns
returns c = three_lists (barred_words c.args.barred) never left_out_words c.args.word.now c.any_of.result c.is_barred.result c.is_never.result c.is_left_out_word.result c.any_of.ensures c.is_barred.ensures c.is_never.ensures c.is_left_out_word.ensures
