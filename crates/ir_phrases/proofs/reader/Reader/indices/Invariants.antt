use Rattle.std.proofs.Common.{◌≡◌, length, []}
use Rattle.std.specs.Prelude.{Some}
use Rattle.ir_core.specs.declared.limits.TheConstants.{MOST_LENGTH}
use Rattle.ir_grammar.specs.Tokens.{many, sign, after_comma}
use Rattle.ir_grammar.specs.Values.{index}
use Rattle.ir_phrases.proofs.reader.Reader.indices.Given as goal

abbrev pub invariant-loop-self : goal.invariant-loop-self
invariant-loop-self l = (many (sign 44) (after_comma (index (Some MOST_LENGTH) l.levels)) l.indices).parse l.self ≡ (many (sign 44) (after_comma (index (Some MOST_LENGTH) l.levels)) []).parse l.initial.self

abbrev pub decreases-loop-self : goal.decreases-loop-self
decreases-loop-self l = length l.self.tokens
