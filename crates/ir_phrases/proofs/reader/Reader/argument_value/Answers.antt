use Rattle.std.proofs.Common.{true, sym, ◌∙◌, refl}
use Rattle.std.proofs.lemmas.Result.{err_from_is_err_and}
use Rattle.ir_grammar.specs.Tokens.{stated}
use Rattle.ir_grammar.specs.Attributes.{more_set, more, last, argument_value}
use Rattle.ir_grammar.proofs.LawsOfAttributes.{z, law_more}
use Rattle.ir_phrases.proofs.Many.{gives_as, round_fails, rounds_next, rounds_end, many_less}
use Rattle.ir_phrases.proofs.reader.Reader.argument_value.Goals as goal

pub returns-in_err-stand : goal.returns-in_err-stand
unfolding argument_value
returns-in_err-stand c = let p = err_from_is_err_and c.from_residual.result c.from_residual.ensures.1 in rw (p.1, p.2) (round_fails more_set more (last stated) c.loop-self.stand c.loop-self.self c.in_err-stand.field-0.0 _ (sym c.goes_on.ensures ∙ c.loop-self-test.true) c.in_err-stand.ensures c.loop-self.invariant)

pub loop-self-smaller : goal.loop-self-smaller
loop-self-smaller c = many_less {w = true} (more c.loop-self.stand) _ (law_more c.loop-self.stand) refl c.in_ok-stand.stand c.loop-self.self c.next_stand.new.self c.in_ok-stand.ensures

pub loop-self-preserved : goal.loop-self-preserved
unfolding argument_value
loop-self-preserved c = rounds_next {w = true} more_set more (last stated) z law_more (λ x. refl) c.loop-self.stand c.in_ok-stand.stand c.loop-self.self c.next_stand.new.self _ (sym c.goes_on.ensures ∙ c.loop-self-test.true) c.in_ok-stand.ensures c.loop-self.invariant

pub returns : goal.returns
unfolding argument_value
returns c = gives_as c.last_value.result c.last_value.new.self ((last stated c.loop-self.stand).parse c.loop-self.self) _ (rounds_end more_set more (last stated) c.loop-self.stand c.loop-self.self _ (sym c.goes_on.ensures ∙ c.loop-self-test.false) c.loop-self.invariant) c.last_value.ensures
