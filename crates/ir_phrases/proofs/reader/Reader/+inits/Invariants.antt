use Rattle.std.proofs.Common.{◌≡◌, ◌+◌, ◌*◌, length}
use Rattle.std.specs.Prelude.{Some}
use Rattle.ir_core.specs.declared.limits.TheConstants.{MOST_LENGTH}
use Rattle.ir_grammar.specs.Tokens.{many, sign, after_comma}
use Rattle.ir_grammar.specs.Values.{typed_init, init_at}
use Rattle.ir_phrases.proofs.reader.Reader.+inits.Given as goal

abbrev pub decreases-array_init : goal.decreases-array_init
decreases-array_init l = 8 * l.levels + 7

abbrev pub decreases-struct_init : goal.decreases-struct_init
decreases-struct_init l = 8 * l.levels + 7

abbrev pub decreases-inits : goal.decreases-inits
decreases-inits l = 8 * l.levels + 6

abbrev pub decreases-more_inits : goal.decreases-more_inits
decreases-more_inits l = 8 * l.levels + 5

abbrev pub decreases-next_init : goal.decreases-next_init
decreases-next_init l = 8 * l.levels + 4

abbrev pub decreases-typed_init : goal.decreases-typed_init
decreases-typed_init l = 8 * l.levels + 3

abbrev pub decreases-init_at : goal.decreases-init_at
decreases-init_at l = 8 * l.levels + 2

abbrev pub invariant-more_inits-loop-self : goal.invariant-more_inits-loop-self
invariant-more_inits-loop-self l = (many (sign 44) (after_comma (typed_init (init_at (Some MOST_LENGTH) l.levels) (Some MOST_LENGTH) l.levels)) l.inits).parse l.self ≡ (many (sign 44) (after_comma (typed_init (init_at (Some MOST_LENGTH) l.levels) (Some MOST_LENGTH) l.levels)) l.initial.inits).parse l.initial.self

abbrev pub decreases-more_inits-loop-self : goal.decreases-more_inits-loop-self
decreases-more_inits-loop-self l = length l.self.tokens
