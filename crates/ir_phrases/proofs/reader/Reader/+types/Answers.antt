use Rattle.std.proofs.Common.{◌-◌, true, sym, ◌∙◌, refl, arith}
use Rattle.std.specs.Prelude.{Some}
use Rattle.std.proofs.lemmas.Result.{err_from_is_err_and}
use Rattle.std.proofs.lemmas.Bool.Decides.{nat_tests}
use Rattle.ir_core.specs.declared.limits.TheConstants.{MOST_LENGTH}
use Rattle.ir_grammar.specs.Forms.{token}
use Rattle.ir_grammar.specs.Tokens.{sign, after_comma, one_word}
use Rattle.ir_grammar.specs.Types.{scalars, named, last_of, type_in, array, struct}
use Rattle.ir_grammar.proofs.LawsOfTokens.{law_after_comma}
use Rattle.ir_grammar.proofs.LawsOfTypes.{law_type}
use Rattle.ir_phrases.proofs.Many.{many_next, many_less, many_ends, many_fails, gives_as}
use Rattle.ir_phrases.proofs.TypesRead.{at_name, at_zero, at_word, at_array, at_struct}
use Rattle.ir_phrases.proofs.reader.Reader.+types.Goals as goal

pub more_types-returns-in_err-next : goal.more_types-returns-in_err-next
more_types-returns-in_err-next t c = let p = err_from_is_err_and c.from_residual.result c.from_residual.ensures.1 in rw (p.1, p.2) (many_fails (sign 44) (after_comma (type_in true (Some MOST_LENGTH) c.args.levels)) c.loop-self.types c.loop-self.self c.in_err-next.field-0.0 _ (sym c.is_sign.ensures ∙ c.loop-self-test.true) c.in_err-next.ensures c.loop-self.invariant)

pub more_types-loop-self-smaller : goal.more_types-loop-self-smaller
more_types-loop-self-smaller t c = many_less {w = true} (after_comma (type_in true (Some MOST_LENGTH) c.args.levels)) _ (law_after_comma (law_type true (Some MOST_LENGTH) c.args.levels)) refl c.in_ok-next.next c.loop-self.self c.next_type.new.self c.in_ok-next.ensures

pub more_types-loop-self-preserved : goal.more_types-loop-self-preserved
more_types-loop-self-preserved t c = many_next {w = true} (sign 44) (after_comma (type_in true (Some MOST_LENGTH) c.args.levels)) _ (law_after_comma (law_type true (Some MOST_LENGTH) c.args.levels)) refl c.loop-self.types c.push.new.items c.in_ok-next.next c.loop-self.self c.next_type.new.self _ (sym c.is_sign.ensures ∙ c.loop-self-test.true) c.in_ok-next.ensures c.in_ok-push.ensures c.loop-self.invariant

pub more_types-returns : goal.more_types-returns
more_types-returns t c = many_ends (sign 44) (after_comma (type_in true (Some MOST_LENGTH) c.args.levels)) c.loop-self.types c.loop-self.self _ (sym c.is_sign.ensures ∙ c.loop-self-test.false) c.loop-self.invariant

pub ty-returns-then-is_kind : goal.ty-returns-then-is_kind
ty-returns-then-is_kind t c = gives_as c.named_type.result c.named_type.new.self (named.parse c.args.self.now) _ (at_name c.args.void (Some MOST_LENGTH) c.args.levels c.args.self.now (sym c.is_kind.ensures ∙ c.if-is_kind.true)) c.named_type.ensures

pub ty-returns-then-levels-eq0 : goal.ty-returns-then-levels-eq0
ty-returns-then-levels-eq0 t c = gives_as c.last_type.result c.last_type.new.self ((token (last_of c.args.void)).parse c.args.self.now) _ (at_zero c.args.void (Some MOST_LENGTH) c.args.levels c.args.self.now (sym c.is_kind.ensures ∙ c.if-is_kind.false) (grind (arith, nat_tests))) c.last_type.ensures

pub ty-returns-then-is_type_word : goal.ty-returns-then-is_type_word
ty-returns-then-is_type_word t c = gives_as c.type_of_word.result c.type_of_word.new.self ((one_word (scalars c.args.void)).parse c.args.self.now) _ (at_word c.args.void (Some MOST_LENGTH) c.args.levels c.args.self.now (sym c.is_kind.ensures ∙ c.if-is_kind.false) (omega arith) (sym c.is_type_word.ensures ∙ c.if-is_type_word.true)) c.type_of_word.ensures

pub ty-returns-then-is_sign : goal.ty-returns-then-is_sign
ty-returns-then-is_sign t c = gives_as c.array.result c.array.new.self ((array (Some MOST_LENGTH) (type_in true (Some MOST_LENGTH) (c.args.levels - 1))).parse c.args.self.now) _ (at_array c.args.void (Some MOST_LENGTH) c.args.levels c.args.self.now (sym c.is_kind.ensures ∙ c.if-is_kind.false) (omega arith) (sym c.is_type_word.ensures ∙ c.if-is_type_word.false) (sym c.is_sign.ensures ∙ c.if-is_sign.true)) c.array.ensures

pub ty-returns : goal.ty-returns
ty-returns t c = gives_as c.structure.result c.structure.new.self ((struct (type_in true (Some MOST_LENGTH) (c.args.levels - 1))).parse c.args.self.now) _ (at_struct c.args.void (Some MOST_LENGTH) c.args.levels c.args.self.now (sym c.is_kind.ensures ∙ c.if-is_kind.false) (omega arith) (sym c.is_type_word.ensures ∙ c.if-is_type_word.false) (sym c.is_sign.ensures ∙ c.if-is_sign.false)) c.structure.ensures
