use Rattle.std.proofs.Common.{◌≡◌, ◌+◌, ◌*◌, length}
use Rattle.std.specs.Prelude.{true, Some}
use Rattle.ir_core.specs.declared.limits.TheConstants.{MOST_LENGTH}
use Rattle.ir_grammar.specs.Tokens.{many, sign, after_comma}
use Rattle.ir_grammar.specs.Types.{type_in}
use Rattle.ir_phrases.proofs.reader.Reader.+types.Given as goal

abbrev pub decreases-array : goal.decreases-array
decreases-array l = 6 * l.levels + 6

abbrev pub decreases-structure : goal.decreases-structure
decreases-structure l = 6 * l.levels + 6

abbrev pub decreases-fields : goal.decreases-fields
decreases-fields l = 6 * l.levels + 5

abbrev pub decreases-more_types : goal.decreases-more_types
decreases-more_types l = 6 * l.levels + 4

abbrev pub decreases-next_type : goal.decreases-next_type
decreases-next_type l = 6 * l.levels + 3

abbrev pub decreases-ty : goal.decreases-ty
decreases-ty l = 6 * l.levels + 2

abbrev pub invariant-more_types-loop-self : goal.invariant-more_types-loop-self
invariant-more_types-loop-self l = (many (sign 44) (after_comma (type_in true (Some MOST_LENGTH) l.levels)) l.types).parse l.self ≡ (many (sign 44) (after_comma (type_in true (Some MOST_LENGTH) l.levels)) l.initial.types).parse l.initial.self

abbrev pub decreases-more_types-loop-self : goal.decreases-more_types-loop-self
decreases-more_types-loop-self l = length l.self.tokens
