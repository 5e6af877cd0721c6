use Rattle.std.proofs.Common.{sym, ◌∙◌}
use Rattle.std.proofs.lemmas.Result.{err_from_is_err_and}
use Rattle.ir_grammar.specs.Forms.{ret}
use Rattle.std.specs.Prelude.{ℕ, Option}
use Rattle.ir_grammar.specs.Tokens.{stated, sign}
use Rattle.ir_grammar.specs.Entities.{one_global_end, global_end}
use Rattle.ir_phrases.proofs.Many.{round_fails, rounds_end}
use Rattle.ir_reader.proofs.RoundLaws.{one_more_end}
use Rattle.ir_bodies.proofs.Loops.{round_less, round_next}
use Rattle.ir_reader.proofs.entities.global_end.Goals as goal

pub returns-in_err-align : goal.returns-in_err-align
unfolding global_end
returns-in_err-align c = let p = err_from_is_err_and c.from_residual.result c.from_residual.ensures.1 in rw (p.1, p.2) (round_fails (λ (x : Option ℕ). sign 44) (one_global_end stated) (λ (x : Option ℕ). ret x) c.loop-reader.align c.loop-reader.reader c.in_err-align.field-0.0 _ (sym c.is_sign.ensures ∙ c.loop-reader-test.true) c.in_err-align.ensures c.loop-reader.invariant)

pub loop-reader-smaller : goal.loop-reader-smaller
loop-reader-smaller c = round_less ((one_global_end stated) c.loop-reader.align) (one_more_end c.loop-reader.align) c.in_ok-align.align c.loop-reader.reader c.next_global_end.new.reader c.in_ok-align.ensures

pub loop-reader-preserved : goal.loop-reader-preserved
unfolding global_end
loop-reader-preserved c = round_next (λ (x : Option ℕ). sign 44) (one_global_end stated) (λ (x : Option ℕ). ret x) one_more_end c.loop-reader.align c.in_ok-align.align c.loop-reader.reader c.next_global_end.new.reader _ (sym c.is_sign.ensures ∙ c.loop-reader-test.true) c.in_ok-align.ensures c.loop-reader.invariant

pub returns : goal.returns
unfolding global_end
returns c = rounds_end (λ (x : Option ℕ). sign 44) (one_global_end stated) (λ (x : Option ℕ). ret x) c.loop-reader.align c.loop-reader.reader _ (sym c.is_sign.ensures ∙ c.loop-reader-test.false) c.loop-reader.invariant
