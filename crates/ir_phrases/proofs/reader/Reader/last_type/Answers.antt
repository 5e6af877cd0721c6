use Rattle.std.proofs.Common.{sym, ◌∙◌, refl}
use Rattle.ir_grammar.specs.declared.which.Which.TheVariants as limits
use Rattle.ir_grammar.specs.Forms.{Exceeds}
use Rattle.ir_grammar.specs.Tokens.{one_word}
use Rattle.ir_grammar.specs.Types.{last_of, scalars}
use Rattle.ir_phrases.proofs.Many.{gives_as}
use Rattle.ir_phrases.proofs.LevelsRead.{bracket_exceeds, word_is_left, last_type}
use Rattle.ir_phrases.proofs.reader.Reader.last_type.Goals as goal

pub returns-then-is_bracket : goal.returns-then-is_bracket
returns-then-is_bracket c = rw c.limit.ensures (record { at = c.args.self.now.tokens; why = Exceeds limits.Nesting }, bracket_exceeds (last_of c.args.void) (scalars c.args.void) (last_type c.args.void) c.args.self.now.names c.args.self.now.tokens (sym c.is_bracket.ensures ∙ c.if-is_bracket.true), refl)

pub returns : goal.returns
returns c = gives_as c.type_of_word.result c.type_of_word.new.self ((one_word (scalars c.args.void)).parse c.args.self.now) _ (word_is_left (last_of c.args.void) (scalars c.args.void) (last_type c.args.void) c.args.self.now.names c.args.self.now.tokens (sym c.is_bracket.ensures ∙ c.if-is_bracket.false)) c.type_of_word.ensures
