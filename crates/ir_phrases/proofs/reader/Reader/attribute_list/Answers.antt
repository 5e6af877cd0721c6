use Rattle.std.proofs.Common.{true, sym, ◌∙◌, refl}
use Rattle.std.proofs.lemmas.Result.{err_from_is_err_and}
use Rattle.ir_grammar.specs.declared.parts.Marks.{Marks}
use Rattle.ir_grammar.specs.Forms.{ret}
use Rattle.ir_grammar.specs.Attributes.{attribute_set, one_mark, attribute_list}
use Rattle.ir_grammar.proofs.Rules.{goes_on_with}
use Rattle.ir_grammar.proofs.LawsOfAttributes.{attribute_greedy, law_one_mark}
use Rattle.ir_phrases.proofs.Many.{round_fails, rounds_next, rounds_end, many_less}
use Rattle.ir_phrases.proofs.reader.Reader.attribute_list.Goals as goal

pub returns-in_err-marks : goal.returns-in_err-marks
unfolding attribute_list
returns-in_err-marks c = let p = err_from_is_err_and c.from_residual.result c.from_residual.ensures.1 in rw (p.1, p.2) (round_fails (λ (m : Marks). attribute_set c.args.barred) (one_mark c.args.barred) (λ (m : Marks). ret m) c.loop-barred.marks c.loop-barred.self c.in_err-marks.field-0.0 _ (sym c.is_attribute.ensures ∙ c.loop-barred-test.true) c.in_err-marks.ensures c.loop-barred.invariant)

pub loop-barred-smaller : goal.loop-barred-smaller
loop-barred-smaller c = many_less {w = true} ((one_mark c.args.barred) c.loop-barred.marks) _ ((law_one_mark c.args.barred) c.loop-barred.marks) refl c.in_ok-marks.marks c.loop-barred.self c.next_mark.new.self c.in_ok-marks.ensures

pub loop-barred-preserved : goal.loop-barred-preserved
unfolding attribute_list
loop-barred-preserved c = rounds_next {w = true} (λ (m : Marks). attribute_set c.args.barred) (one_mark c.args.barred) (λ (m : Marks). ret m) (λ m. goes_on_with (attribute_set c.args.barred) attribute_greedy) (law_one_mark c.args.barred) (λ x. refl) c.loop-barred.marks c.in_ok-marks.marks c.loop-barred.self c.next_mark.new.self _ (sym c.is_attribute.ensures ∙ c.loop-barred-test.true) c.in_ok-marks.ensures c.loop-barred.invariant

pub returns : goal.returns
unfolding attribute_list
returns c = rounds_end (λ (m : Marks). attribute_set c.args.barred) (one_mark c.args.barred) (λ (m : Marks). ret m) c.loop-barred.marks c.loop-barred.self _ (sym c.is_attribute.ensures ∙ c.loop-barred-test.false) c.loop-barred.invariant
