use Rattle.std.proofs.Common.{◌-◌, true, sym, ◌∙◌, refl, arith}
use Rattle.std.specs.Prelude.{Some}
use Rattle.std.proofs.lemmas.Result.{err_from_is_err_and}
use Rattle.std.proofs.lemmas.Bool.Decides.{nat_tests}
use Rattle.ir_core.specs.declared.limits.TheConstants.{MOST_LENGTH}
use Rattle.ir_grammar.specs.Forms.{token}
use Rattle.ir_grammar.specs.Tokens.{sign, after_comma, one_word}
use Rattle.ir_grammar.specs.Values.{const_words, gep, address, integer, zero_init, bytes, last_const_of, typed_init, array_init, struct_init, init_at}
use Rattle.ir_grammar.proofs.LawsOfTokens.{law_after_comma}
use Rattle.ir_grammar.proofs.LawsOfValues.{law_typed_init, law_init_at}
use Rattle.ir_phrases.proofs.Many.{many_next, many_less, many_ends, many_fails, gives_as}
use Rattle.ir_phrases.proofs.InitsRead.{at_address, at_gep, at_integer, at_zero, at_bytes, at_last, at_array, at_struct, at_word}
use Rattle.ir_phrases.proofs.reader.Reader.+inits.Goals as goal

pub more_inits-returns-in_err-next : goal.more_inits-returns-in_err-next
more_inits-returns-in_err-next t c = let p = err_from_is_err_and c.from_residual.result c.from_residual.ensures.1 in rw (p.1, p.2) (many_fails (sign 44) (after_comma (typed_init (init_at (Some MOST_LENGTH) c.args.levels) (Some MOST_LENGTH) c.args.levels)) c.loop-self.inits c.loop-self.self c.in_err-next.field-0.0 _ (sym c.is_sign.ensures ∙ c.loop-self-test.true) c.in_err-next.ensures c.loop-self.invariant)

pub more_inits-loop-self-smaller : goal.more_inits-loop-self-smaller
more_inits-loop-self-smaller t c = many_less {w = true} (after_comma (typed_init (init_at (Some MOST_LENGTH) c.args.levels) (Some MOST_LENGTH) c.args.levels)) _ (law_after_comma (law_typed_init (init_at (Some MOST_LENGTH) c.args.levels) (Some MOST_LENGTH) c.args.levels (law_init_at (Some MOST_LENGTH) c.args.levels))) refl c.in_ok-next.next c.loop-self.self c.next_init.new.self c.in_ok-next.ensures

pub more_inits-loop-self-preserved : goal.more_inits-loop-self-preserved
more_inits-loop-self-preserved t c = many_next {w = true} (sign 44) (after_comma (typed_init (init_at (Some MOST_LENGTH) c.args.levels) (Some MOST_LENGTH) c.args.levels)) _ (law_after_comma (law_typed_init (init_at (Some MOST_LENGTH) c.args.levels) (Some MOST_LENGTH) c.args.levels (law_init_at (Some MOST_LENGTH) c.args.levels))) refl c.loop-self.inits c.push.new.items c.in_ok-next.next c.loop-self.self c.next_init.new.self _ (sym c.is_sign.ensures ∙ c.loop-self-test.true) c.in_ok-next.ensures c.in_ok-push.ensures c.loop-self.invariant

pub more_inits-returns : goal.more_inits-returns
more_inits-returns t c = many_ends (sign 44) (after_comma (typed_init (init_at (Some MOST_LENGTH) c.args.levels) (Some MOST_LENGTH) c.args.levels)) c.loop-self.inits c.loop-self.self _ (sym c.is_sign.ensures ∙ c.loop-self-test.false) c.loop-self.invariant

pub init_at-returns-then-is_kind : goal.init_at-returns-then-is_kind
init_at-returns-then-is_kind t c = gives_as c.address.result c.address.new.self (address.parse c.args.self.now) _ (at_address (Some MOST_LENGTH) c.args.levels c.args.self.now (sym c.is_kind.ensures ∙ c.if-is_kind.true)) c.address.ensures

pub init_at-returns-then-is_gep : goal.init_at-returns-then-is_gep
init_at-returns-then-is_gep t c = gives_as c.gep_const.result c.gep_const.new.self ((gep (Some MOST_LENGTH) c.args.levels).parse c.args.self.now) _ (at_gep (Some MOST_LENGTH) c.args.levels c.args.self.now (sym c.is_kind.ensures ∙ c.if-is_kind.false) (sym c.is_gep.ensures ∙ c.if-is_gep.true)) c.gep_const.ensures

pub init_at-returns-then-is_kind-2 : goal.init_at-returns-then-is_kind-2
init_at-returns-then-is_kind-2 t c = gives_as c.integer.result c.integer.new.self (integer.parse c.args.self.now) _ (at_integer (Some MOST_LENGTH) c.args.levels c.args.self.now (sym c.is_kind.ensures ∙ c.if-is_kind.false) (sym c.is_gep.ensures ∙ c.if-is_gep.false) (sym c.is_kind-2.ensures ∙ c.if-is_kind-2.true)) c.integer.ensures

pub init_at-returns-then-is_word : goal.init_at-returns-then-is_word
init_at-returns-then-is_word t c = gives_as c.zero.result c.zero.new.self (zero_init.parse c.args.self.now) _ (at_zero (Some MOST_LENGTH) c.args.levels c.args.self.now ((sym c.is_kind.ensures ∙ c.if-is_kind.false), (sym c.is_gep.ensures ∙ c.if-is_gep.false), (sym c.is_kind-2.ensures ∙ c.if-is_kind-2.false)) (sym c.is_word.ensures ∙ c.if-is_word.true)) c.zero.ensures

pub init_at-returns-then-is_kind-3 : goal.init_at-returns-then-is_kind-3
init_at-returns-then-is_kind-3 t c = gives_as c.bytes.result c.bytes.new.self (bytes.parse c.args.self.now) _ (at_bytes (Some MOST_LENGTH) c.args.levels c.args.self.now ((sym c.is_kind.ensures ∙ c.if-is_kind.false), (sym c.is_gep.ensures ∙ c.if-is_gep.false), (sym c.is_kind-2.ensures ∙ c.if-is_kind-2.false)) (sym c.is_word.ensures ∙ c.if-is_word.false) (sym c.is_kind-3.ensures ∙ c.if-is_kind-3.true)) c.bytes.ensures

pub init_at-returns-then-levels-eq0 : goal.init_at-returns-then-levels-eq0
init_at-returns-then-levels-eq0 t c = gives_as c.last_const.result c.last_const.new.self ((token last_const_of).parse c.args.self.now) _ (at_last (Some MOST_LENGTH) c.args.levels c.args.self.now (((sym c.is_kind.ensures ∙ c.if-is_kind.false), (sym c.is_gep.ensures ∙ c.if-is_gep.false), (sym c.is_kind-2.ensures ∙ c.if-is_kind-2.false)), (sym c.is_word.ensures ∙ c.if-is_word.false), (sym c.is_kind-3.ensures ∙ c.if-is_kind-3.false)) (grind (arith, nat_tests))) c.last_const.ensures

pub init_at-returns-then-is_sign : goal.init_at-returns-then-is_sign
init_at-returns-then-is_sign t c = gives_as c.array_init.result c.array_init.new.self ((array_init (typed_init (init_at (Some MOST_LENGTH) (c.args.levels - 1)) (Some MOST_LENGTH) (c.args.levels - 1))).parse c.args.self.now) _ (at_array (Some MOST_LENGTH) c.args.levels c.args.self.now (((sym c.is_kind.ensures ∙ c.if-is_kind.false), (sym c.is_gep.ensures ∙ c.if-is_gep.false), (sym c.is_kind-2.ensures ∙ c.if-is_kind-2.false)), (sym c.is_word.ensures ∙ c.if-is_word.false), (sym c.is_kind-3.ensures ∙ c.if-is_kind-3.false)) (omega arith) (sym c.is_sign.ensures ∙ c.if-is_sign.true)) c.array_init.ensures

pub init_at-returns-then-is_sign-2 : goal.init_at-returns-then-is_sign-2
init_at-returns-then-is_sign-2 t c = gives_as c.struct_init.result c.struct_init.new.self ((struct_init (typed_init (init_at (Some MOST_LENGTH) (c.args.levels - 1)) (Some MOST_LENGTH) (c.args.levels - 1))).parse c.args.self.now) _ (at_struct (Some MOST_LENGTH) c.args.levels c.args.self.now (((sym c.is_kind.ensures ∙ c.if-is_kind.false), (sym c.is_gep.ensures ∙ c.if-is_gep.false), (sym c.is_kind-2.ensures ∙ c.if-is_kind-2.false)), (sym c.is_word.ensures ∙ c.if-is_word.false), (sym c.is_kind-3.ensures ∙ c.if-is_kind-3.false)) (omega arith) (sym c.is_sign.ensures ∙ c.if-is_sign.false) (sym c.is_sign-2.ensures ∙ c.if-is_sign-2.true)) c.struct_init.ensures

pub init_at-returns : goal.init_at-returns
init_at-returns t c = gives_as c.const_of_word.result c.const_of_word.new.self ((one_word const_words).parse c.args.self.now) _ (at_word (Some MOST_LENGTH) c.args.levels c.args.self.now (((sym c.is_kind.ensures ∙ c.if-is_kind.false), (sym c.is_gep.ensures ∙ c.if-is_gep.false), (sym c.is_kind-2.ensures ∙ c.if-is_kind-2.false)), (sym c.is_word.ensures ∙ c.if-is_word.false), (sym c.is_kind-3.ensures ∙ c.if-is_kind-3.false)) (omega arith) (sym c.is_sign.ensures ∙ c.if-is_sign.false) (sym c.is_sign-2.ensures ∙ c.if-is_sign-2.false)) c.const_of_word.ensures
