use Rattle.std.proofs.Common.{true, sym, ◌∙◌, refl}
use Rattle.std.specs.Prelude.{Some}
use Rattle.std.proofs.lemmas.Result.{err_from_is_err_and}
use Rattle.ir_core.specs.declared.limits.TheConstants.{MOST_LENGTH}
use Rattle.ir_grammar.specs.Tokens.{sign, after_comma}
use Rattle.ir_grammar.specs.Values.{index}
use Rattle.ir_grammar.proofs.LawsOfTokens.{law_after_comma}
use Rattle.ir_grammar.proofs.LawsOfValues.{law_index}
use Rattle.ir_phrases.proofs.Many.{many_next, many_ends, many_fails, many_less}
use Rattle.ir_phrases.proofs.reader.Reader.indices.Goals as goal

pub returns-in_err-next : goal.returns-in_err-next
returns-in_err-next c = let p = err_from_is_err_and c.from_residual.result c.from_residual.ensures.1 in rw (p.1, p.2) (many_fails (sign 44) (after_comma (index (Some MOST_LENGTH) c.args.levels)) c.loop-self.indices c.loop-self.self c.in_err-next.field-0.0 _ (sym c.is_sign.ensures ∙ c.loop-self-test.true) c.in_err-next.ensures c.loop-self.invariant)

pub loop-self-smaller : goal.loop-self-smaller
loop-self-smaller c = many_less {w = true} (after_comma (index (Some MOST_LENGTH) c.args.levels)) _ (law_after_comma (law_index (Some MOST_LENGTH) c.args.levels)) refl c.in_ok-next.next c.loop-self.self c.next_index.new.self c.in_ok-next.ensures

pub loop-self-preserved : goal.loop-self-preserved
loop-self-preserved c = many_next {w = true} (sign 44) (after_comma (index (Some MOST_LENGTH) c.args.levels)) _ (law_after_comma (law_index (Some MOST_LENGTH) c.args.levels)) refl c.loop-self.indices c.push.new.items c.in_ok-next.next c.loop-self.self c.next_index.new.self _ (sym c.is_sign.ensures ∙ c.loop-self-test.true) c.in_ok-next.ensures c.in_ok-push.ensures c.loop-self.invariant

pub returns : goal.returns
returns c = many_ends (sign 44) (after_comma (index (Some MOST_LENGTH) c.args.levels)) c.loop-self.indices c.loop-self.self _ (sym c.is_sign.ensures ∙ c.loop-self-test.false) c.loop-self.invariant
