use Rattle.std.proofs.Common.{true, sym, ◌∙◌, refl}
use Rattle.std.proofs.lemmas.Result.{err_from_is_err_and}
use Rattle.ir_grammar.specs.declared.parts.Marks.{Marks}
use Rattle.ir_grammar.specs.Forms.{ret}
use Rattle.ir_grammar.specs.Attributes.{mark_or_note_set, mark_or_note, attributes_and_notes}
use Rattle.ir_grammar.proofs.Rules.{goes_on_with}
use Rattle.ir_grammar.proofs.LawsOfAttributes.{attribute_greedy, law_mark_or_note}
use Rattle.ir_phrases.proofs.Many.{round_fails, rounds_next, rounds_end, many_less}
use Rattle.ir_phrases.proofs.reader.Reader.attributes_and_notes.Goals as goal

pub returns-in_err-marks : goal.returns-in_err-marks
unfolding attributes_and_notes
returns-in_err-marks c = let p = err_from_is_err_and c.from_residual.result c.from_residual.ensures.1 in rw (p.1, p.2) (round_fails (λ (m : Marks). mark_or_note_set) mark_or_note (λ (m : Marks). ret m) c.loop-self.marks c.loop-self.self c.in_err-marks.field-0.0 _ (sym c.is_mark_or_note.ensures ∙ c.loop-self-test.true) c.in_err-marks.ensures c.loop-self.invariant)

pub loop-self-smaller : goal.loop-self-smaller
loop-self-smaller c = many_less {w = true} (mark_or_note c.loop-self.marks) _ (law_mark_or_note c.loop-self.marks) refl c.in_ok-marks.marks c.loop-self.self c.next_mark_or_note.new.self c.in_ok-marks.ensures

pub loop-self-preserved : goal.loop-self-preserved
unfolding attributes_and_notes
loop-self-preserved c = rounds_next {w = true} (λ (m : Marks). mark_or_note_set) mark_or_note (λ (m : Marks). ret m) (λ m. goes_on_with mark_or_note_set attribute_greedy) law_mark_or_note (λ x. refl) c.loop-self.marks c.in_ok-marks.marks c.loop-self.self c.next_mark_or_note.new.self _ (sym c.is_mark_or_note.ensures ∙ c.loop-self-test.true) c.in_ok-marks.ensures c.loop-self.invariant

pub returns : goal.returns
unfolding attributes_and_notes
returns c = rounds_end (λ (m : Marks). mark_or_note_set) mark_or_note (λ (m : Marks). ret m) c.loop-self.marks c.loop-self.self _ (sym c.is_mark_or_note.ensures ∙ c.loop-self-test.false) c.loop-self.invariant
