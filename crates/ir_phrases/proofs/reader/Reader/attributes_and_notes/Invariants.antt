use Rattle.std.proofs.Common.{◌≡◌, length}
use Rattle.ir_grammar.specs.Attributes.{attributes_and_notes}
use Rattle.ir_phrases.proofs.reader.Reader.attributes_and_notes.Given as goal

abbrev pub invariant-loop-self : goal.invariant-loop-self
invariant-loop-self l = (attributes_and_notes l.marks).parse l.self ≡ (attributes_and_notes l.initial.marks).parse l.initial.self

abbrev pub decreases-loop-self : goal.decreases-loop-self
decreases-loop-self l = length l.self.tokens
