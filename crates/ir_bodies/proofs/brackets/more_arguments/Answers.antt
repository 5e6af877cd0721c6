use Rattle.std.proofs.Common.{List, sym, ◌∙◌}
use Rattle.std.proofs.lemmas.Result.{err_from_is_err_and}
use Rattle.ir_grammar.specs.Forms.{ret}
use Rattle.ir_core.specs.declared.op.TypedOperand.{TypedOperand}
use Rattle.ir_grammar.specs.Tokens.{stated, sign}
use Rattle.ir_grammar.specs.Attributes.{argument}
use Rattle.ir_grammar.specs.Operations.{one_more_item}
use Rattle.ir_phrases.proofs.Many.{round_fails, rounds_end}
use Rattle.ir_bodies.proofs.RoundLaws.{one_more_argument}
use Rattle.ir_bodies.proofs.Loops.{round_less, round_next}
use Rattle.ir_bodies.proofs.brackets.more_arguments.Goals as goal

pub returns-in_err-arguments : goal.returns-in_err-arguments
returns-in_err-arguments c = let p = err_from_is_err_and c.from_residual.result c.from_residual.ensures.1 in rw (p.1, p.2) (round_fails (λ (x : List TypedOperand). sign 44) (one_more_item stated (argument stated)) (λ (x : List TypedOperand). ret x) c.loop-reader.arguments c.loop-reader.reader c.in_err-arguments.field-0.0 _ (sym c.is_sign.ensures ∙ c.loop-reader-test.true) c.in_err-arguments.ensures c.loop-reader.invariant)

pub loop-reader-smaller : goal.loop-reader-smaller
loop-reader-smaller c = round_less ((one_more_item stated (argument stated)) c.loop-reader.arguments) (one_more_argument c.loop-reader.arguments) c.in_ok-arguments.arguments c.loop-reader.reader c.one_more_argument.new.reader c.in_ok-arguments.ensures

pub loop-reader-preserved : goal.loop-reader-preserved
loop-reader-preserved c = round_next (λ (x : List TypedOperand). sign 44) (one_more_item stated (argument stated)) (λ (x : List TypedOperand). ret x) one_more_argument c.loop-reader.arguments c.in_ok-arguments.arguments c.loop-reader.reader c.one_more_argument.new.reader _ (sym c.is_sign.ensures ∙ c.loop-reader-test.true) c.in_ok-arguments.ensures c.loop-reader.invariant

pub returns : goal.returns
returns c = rounds_end (λ (x : List TypedOperand). sign 44) (one_more_item stated (argument stated)) (λ (x : List TypedOperand). ret x) c.loop-reader.arguments c.loop-reader.reader _ (sym c.is_sign.ensures ∙ c.loop-reader-test.false) c.loop-reader.invariant
