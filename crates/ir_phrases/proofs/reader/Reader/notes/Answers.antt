use Rattle.std.proofs.Common.{true, sym, ◌∙◌, refl}
use Rattle.std.proofs.lemmas.Result.{err_from_is_err_and}
use Rattle.ir_grammar.specs.Tokens.{sign, after_comma}
use Rattle.ir_grammar.specs.Attributes.{note, notes}
use Rattle.ir_grammar.proofs.LawsOfTokens.{law_after_comma}
use Rattle.ir_grammar.proofs.LawsOfAttributes.{law_note}
use Rattle.ir_phrases.proofs.Many.{skip_next, skip_ends, skip_fails, many_less}
use Rattle.ir_phrases.proofs.reader.Reader.notes.Goals as goal

pub returns-in_err-next_note : goal.returns-in_err-next_note
unfolding notes
returns-in_err-next_note c = let p = err_from_is_err_and c.from_residual.result c.from_residual.ensures.1 in rw (p.1, p.2) (skip_fails (sign 44) (after_comma note) c.loop-self.self c.in_err-next_note.field-0.0 _ (sym c.is_sign.ensures ∙ c.loop-self-test.true) c.in_err-next_note.ensures c.loop-self.invariant)

pub loop-self-smaller : goal.loop-self-smaller
loop-self-smaller c = many_less {w = true} (after_comma note) _ (law_after_comma law_note) refl c.in_ok-next_note.field-0 c.loop-self.self c.next_note.new.self c.in_ok-next_note.ensures

pub loop-self-preserved : goal.loop-self-preserved
loop-self-preserved c = skip_next {w = true} (sign 44) (after_comma note) _ (law_after_comma law_note) refl c.in_ok-next_note.field-0 c.loop-self.self c.next_note.new.self _ (sym c.is_sign.ensures ∙ c.loop-self-test.true) c.in_ok-next_note.ensures c.loop-self.invariant

pub returns : goal.returns
unfolding notes
returns c = skip_ends (sign 44) (after_comma note) c.loop-self.self _ (sym c.is_sign.ensures ∙ c.loop-self-test.false) c.loop-self.invariant
