use Rattle.std.proofs.Common.{true, sym, ◌∙◌}
use Rattle.std.proofs.lemmas.Result.{err_from_is_err_and}
use Rattle.ir_grammar.specs.Types.{type_set}
use Rattle.ir_grammar.specs.Tokens.{stated}
use Rattle.ir_grammar.specs.Bodies.{switch_case}
use Rattle.ir_phrases.proofs.Many.{many_next, many_ends, many_fails, many_less}
use Rattle.ir_bodies.proofs.RoundLaws.{one_more_case}
use Rattle.ir_bodies.proofs.terminators.switch_cases.Goals as goal

pub returns-in_err-next : goal.returns-in_err-next
returns-in_err-next c = let p = err_from_is_err_and c.from_residual.result c.from_residual.ensures.1 in rw (p.1, p.2) (many_fails (type_set true) (switch_case stated) c.loop-reader.cases c.loop-reader.reader c.in_err-next.field-0.0 _ (sym c.is_type.ensures ∙ c.loop-reader-test.true) c.in_err-next.ensures c.loop-reader.invariant)

pub loop-reader-smaller : goal.loop-reader-smaller
loop-reader-smaller c = many_less (switch_case stated) one_more_case.0 one_more_case.2 one_more_case.1 c.in_ok-next.next c.loop-reader.reader c.switch_case.new.reader c.in_ok-next.ensures

pub loop-reader-preserved : goal.loop-reader-preserved
loop-reader-preserved c = many_next (type_set true) (switch_case stated) one_more_case.0 one_more_case.2 one_more_case.1 c.loop-reader.cases c.push.new.items c.in_ok-next.next c.loop-reader.reader c.switch_case.new.reader _ (sym c.is_type.ensures ∙ c.loop-reader-test.true) c.in_ok-next.ensures c.in_ok-push.ensures c.loop-reader.invariant

pub returns : goal.returns
returns c = many_ends (type_set true) (switch_case stated) c.loop-reader.cases c.loop-reader.reader _ (sym c.is_type.ensures ∙ c.loop-reader-test.false) c.loop-reader.invariant
