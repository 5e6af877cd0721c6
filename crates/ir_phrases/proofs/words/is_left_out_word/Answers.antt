use Rattle.std.proofs.Common.{◌++◌}
use Rattle.ir_grammar.specs.Words.{left_out_types, left_out_operations, left_out_control, left_out_shared, left_out_passing, left_out_linkage, left_out_entities}
use Rattle.ir_phrases.proofs.WordLists.{three_lists}
use Rattle.ir_phrases.proofs.words.is_left_out_word.Goals as goal

pub returns : goal.returns
returns c =
    let last = three_lists left_out_passing left_out_linkage left_out_entities c.args.word.now c.any_of.result c.is_left_out_passing.result c.is_left_out_linkage.result c.is_left_out_entities.result c.any_of.ensures c.is_left_out_passing.ensures c.is_left_out_linkage.ensures c.is_left_out_entities.ensures in
    let middle = three_lists left_out_control left_out_shared (left_out_passing ++ (left_out_linkage ++ left_out_entities)) c.args.word.now c.any_of-2.result c.is_left_out_control.result c.is_left_out_shared.result c.any_of.result c.any_of-2.ensures c.is_left_out_control.ensures c.is_left_out_shared.ensures last in
    three_lists left_out_types left_out_operations (left_out_control ++ (left_out_shared ++ (left_out_passing ++ (left_out_linkage ++ left_out_entities)))) c.args.word.now c.any_of-3.result c.is_left_out_types.result c.is_left_out_operations.result c.any_of-2.result c.any_of-3.ensures c.is_left_out_types.ensures c.is_left_out_operations.ensures middle
