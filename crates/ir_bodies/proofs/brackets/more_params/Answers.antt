use Rattle.std.proofs.Common.{List, sym, ◌∙◌}
use Rattle.std.proofs.lemmas.Result.{err_from_is_err_and}
use Rattle.ir_grammar.specs.Forms.{ret}
use Rattle.ir_core.specs.declared.func.Param.{Param}
use Rattle.ir_grammar.specs.Tokens.{stated, sign}
use Rattle.ir_grammar.specs.Entities.{param}
use Rattle.ir_grammar.specs.Operations.{one_more_item}
use Rattle.ir_phrases.proofs.Many.{round_fails, rounds_end}
use Rattle.ir_bodies.proofs.RoundLaws.{one_more_param}
use Rattle.ir_bodies.proofs.Loops.{round_less, round_next}
use Rattle.ir_bodies.proofs.brackets.more_params.Goals as goal

pub returns-in_err-params : goal.returns-in_err-params
returns-in_err-params c = let p = err_from_is_err_and c.from_residual.result c.from_residual.ensures.1 in rw (p.1, p.2) (round_fails (λ (x : List Param). sign 44) (one_more_item stated (param stated)) (λ (x : List Param). ret x) c.loop-reader.params c.loop-reader.reader c.in_err-params.field-0.0 _ (sym c.is_sign.ensures ∙ c.loop-reader-test.true) c.in_err-params.ensures c.loop-reader.invariant)

pub loop-reader-smaller : goal.loop-reader-smaller
loop-reader-smaller c = round_less ((one_more_item stated (param stated)) c.loop-reader.params) (one_more_param c.loop-reader.params) c.in_ok-params.params c.loop-reader.reader c.one_more_param.new.reader c.in_ok-params.ensures

pub loop-reader-preserved : goal.loop-reader-preserved
loop-reader-preserved c = round_next (λ (x : List Param). sign 44) (one_more_item stated (param stated)) (λ (x : List Param). ret x) one_more_param c.loop-reader.params c.in_ok-params.params c.loop-reader.reader c.one_more_param.new.reader _ (sym c.is_sign.ensures ∙ c.loop-reader-test.true) c.in_ok-params.ensures c.loop-reader.invariant

pub returns : goal.returns
returns c = rounds_end (λ (x : List Param). sign 44) (one_more_item stated (param stated)) (λ (x : List Param). ret x) c.loop-reader.params c.loop-reader.reader _ (sym c.is_sign.ensures ∙ c.loop-reader-test.false) c.loop-reader.invariant
