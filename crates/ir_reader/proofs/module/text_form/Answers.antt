use Rattle.std.proofs.Common.{sym, ◌∙◌}
use Rattle.std.proofs.lemmas.Result.{err_from_is_err_and}
use Rattle.ir_grammar.specs.declared.parts.Draft.{Draft}
use Rattle.ir_grammar.specs.Tokens.{stated}
use Rattle.ir_grammar.specs.Entities.{next_set, next_entity, text_end, text_form}
use Rattle.ir_phrases.proofs.Many.{gives_as, round_fails, rounds_end}
use Rattle.ir_reader.proofs.RoundLaws.{one_more_entity}
use Rattle.ir_bodies.proofs.Loops.{round_less, round_next}
use Rattle.ir_reader.proofs.module.text_form.Goals as goal

pub returns-in_err-draft : goal.returns-in_err-draft
unfolding text_form
returns-in_err-draft c = let p = err_from_is_err_and c.from_residual.result c.from_residual.ensures.1 in rw (p.1, p.2) (round_fails (λ (x : Draft). next_set x.declares) (λ (x : Draft). next_entity stated x x.declares) (λ (x : Draft). text_end x) c.loop-reader.draft c.loop-reader.reader c.in_err-draft.field-0.0 _ (sym c.goes_on.ensures ∙ c.loop-reader-test.true) c.in_err-draft.ensures c.loop-reader.invariant)

pub loop-reader-smaller : goal.loop-reader-smaller
loop-reader-smaller c = round_less ((λ (x : Draft). next_entity stated x x.declares) c.loop-reader.draft) (one_more_entity c.loop-reader.draft) c.in_ok-draft.draft c.loop-reader.reader c.next_entity.new.reader c.in_ok-draft.ensures

pub loop-reader-preserved : goal.loop-reader-preserved
unfolding text_form
loop-reader-preserved c = round_next (λ (x : Draft). next_set x.declares) (λ (x : Draft). next_entity stated x x.declares) (λ (x : Draft). text_end x) one_more_entity c.loop-reader.draft c.in_ok-draft.draft c.loop-reader.reader c.next_entity.new.reader _ (sym c.goes_on.ensures ∙ c.loop-reader-test.true) c.in_ok-draft.ensures c.loop-reader.invariant

pub returns : goal.returns
unfolding text_form
returns c = gives_as c.text_end.result c.text_end.new.reader ((text_end c.loop-reader.draft).parse c.loop-reader.reader) _ (rounds_end (λ (x : Draft). next_set x.declares) (λ (x : Draft). next_entity stated x x.declares) (λ (x : Draft). text_end x) c.loop-reader.draft c.loop-reader.reader _ (sym c.goes_on.ensures ∙ c.loop-reader-test.false) c.loop-reader.invariant) c.text_end.ensures
