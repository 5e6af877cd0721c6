use Rattle.std.proofs.Common.{Bool, true, List, sym, ◌∙◌, refl}
use Rattle.std.proofs.lemmas.Result.{err_from_is_err_and}
use Rattle.ir_core.specs.declared.op.TypedOperand.{TypedOperand}
use Rattle.ir_grammar.specs.Forms.{ret}
use Rattle.ir_grammar.specs.Tokens.{stated, sign}
use Rattle.ir_grammar.specs.Values.{typed}
use Rattle.ir_grammar.specs.Operations.{one_listed}
use Rattle.ir_grammar.proofs.Rules.{begins_with}
use Rattle.ir_grammar.proofs.LawsOfValues.{law_typed}
use Rattle.ir_grammar.proofs.LawsOfOperations.{law_listing}
use Rattle.ir_phrases.proofs.Many.{round_fails, rounds_next, rounds_end, many_less}
use Rattle.ir_bodies.proofs.geps.indices_and_notes.Goals as goal

pub returns-in_err-so_far : goal.returns-in_err-so_far
returns-in_err-so_far c = let p = err_from_is_err_and c.from_residual.result c.from_residual.ensures.1 in rw (p.1, p.2) (round_fails (λ (x : Bool × List TypedOperand). sign 44) (one_listed (typed stated)) (λ (x : Bool × List TypedOperand). ret x.1) c.loop-reader.so_far c.loop-reader.reader c.in_err-so_far.field-0.0 _ (sym c.is_sign.ensures ∙ c.loop-reader-test.true) c.in_err-so_far.ensures c.loop-reader.invariant)

pub loop-reader-smaller : goal.loop-reader-smaller
loop-reader-smaller c = many_less {w = true} (one_listed (typed stated) c.loop-reader.so_far) _ (law_listing (law_typed stated) refl c.loop-reader.so_far.0 c.loop-reader.so_far.1) refl c.in_ok-so_far.so_far c.loop-reader.reader c.next_operand.new.reader c.in_ok-so_far.ensures

pub loop-reader-preserved : goal.loop-reader-preserved
loop-reader-preserved c = rounds_next {w = true} (λ (x : Bool × List TypedOperand). sign 44) (one_listed (typed stated)) (λ (x : Bool × List TypedOperand). ret x.1) (λ x. begins_with (sign 44)) (λ (x : Bool × List TypedOperand). law_listing (law_typed stated) refl x.0 x.1) (λ x. refl) c.loop-reader.so_far c.in_ok-so_far.so_far c.loop-reader.reader c.next_operand.new.reader _ (sym c.is_sign.ensures ∙ c.loop-reader-test.true) c.in_ok-so_far.ensures c.loop-reader.invariant

pub returns : goal.returns
returns c = rounds_end (λ (x : Bool × List TypedOperand). sign 44) (one_listed (typed stated)) (λ (x : Bool × List TypedOperand). ret x.1) c.loop-reader.so_far c.loop-reader.reader _ (sym c.is_sign.ensures ∙ c.loop-reader-test.false) c.loop-reader.invariant
