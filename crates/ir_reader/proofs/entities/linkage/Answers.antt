use Rattle.std.proofs.Common.{Bool, sym, ◌∙◌}
use Rattle.std.proofs.lemmas.Result.{err_from_is_err_and}
use Rattle.ir_grammar.specs.Forms.{ret}
use Rattle.ir_grammar.specs.Tokens.{words_of}
use Rattle.ir_grammar.specs.Entities.{global_words, one_linkage, linkage}
use Rattle.ir_phrases.proofs.Many.{round_fails, rounds_end}
use Rattle.ir_reader.proofs.RoundLaws.{one_more_word}
use Rattle.ir_bodies.proofs.Loops.{round_less, round_next}
use Rattle.ir_reader.proofs.entities.linkage.Goals as goal

pub returns-in_err-internal : goal.returns-in_err-internal
unfolding linkage
returns-in_err-internal c = let p = err_from_is_err_and c.from_residual.result c.from_residual.ensures.1 in rw (p.1, p.2) (round_fails (λ (x : Bool). words_of global_words) (one_linkage) (λ (x : Bool). ret x) c.loop-reader.internal c.loop-reader.reader c.in_err-internal.field-0.0 _ (sym c.is_global_word.ensures ∙ c.loop-reader-test.true) c.in_err-internal.ensures c.loop-reader.invariant)

pub loop-reader-smaller : goal.loop-reader-smaller
loop-reader-smaller c = round_less ((one_linkage) c.loop-reader.internal) (one_more_word c.loop-reader.internal) c.in_ok-internal.internal c.loop-reader.reader c.one_more_word.new.reader c.in_ok-internal.ensures

pub loop-reader-preserved : goal.loop-reader-preserved
unfolding linkage
loop-reader-preserved c = round_next (λ (x : Bool). words_of global_words) (one_linkage) (λ (x : Bool). ret x) one_more_word c.loop-reader.internal c.in_ok-internal.internal c.loop-reader.reader c.one_more_word.new.reader _ (sym c.is_global_word.ensures ∙ c.loop-reader-test.true) c.in_ok-internal.ensures c.loop-reader.invariant

pub returns : goal.returns
unfolding linkage
returns c = rounds_end (λ (x : Bool). words_of global_words) (one_linkage) (λ (x : Bool). ret x) c.loop-reader.internal c.loop-reader.reader _ (sym c.is_global_word.ensures ∙ c.loop-reader-test.false) c.loop-reader.invariant
