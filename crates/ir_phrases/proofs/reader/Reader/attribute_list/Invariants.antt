use Rattle.std.proofs.Common.{◌≡◌, length}
use Rattle.ir_grammar.specs.Attributes.{no_marks, attribute_list}
use Rattle.ir_phrases.proofs.reader.Reader.attribute_list.Given as goal

abbrev pub invariant-loop-barred : goal.invariant-loop-barred
invariant-loop-barred l = (attribute_list l.barred l.marks).parse l.self ≡ (attribute_list l.barred no_marks).parse l.initial.self

abbrev pub decreases-loop-barred : goal.decreases-loop-barred
decreases-loop-barred l = length l.self.tokens
