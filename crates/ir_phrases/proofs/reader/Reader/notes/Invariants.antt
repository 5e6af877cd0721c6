use Rattle.std.proofs.Common.{◌≡◌, length}
use Rattle.ir_grammar.specs.Tokens.{skip, sign, after_comma}
use Rattle.ir_grammar.specs.Attributes.{note}
use Rattle.ir_phrases.proofs.reader.Reader.notes.Given as goal

abbrev pub invariant-loop-self : goal.invariant-loop-self
invariant-loop-self l = (skip (sign 44) (after_comma note)).parse l.self ≡ (skip (sign 44) (after_comma note)).parse l.initial.self

abbrev pub decreases-loop-self : goal.decreases-loop-self
decreases-loop-self l = length l.self.tokens
