use Rattle.std.proofs.Common.{sym, ◌∙◌}
use Rattle.std.proofs.lemmas.Result.{err_from_is_err_and}
use Rattle.ir_grammar.specs.declared.parts.Progress.{Progress}
use Rattle.ir_grammar.specs.Tokens.{stated}
use Rattle.ir_grammar.specs.Bodies.{next_set, next_block, last_blocks, more_blocks}
use Rattle.ir_phrases.proofs.Many.{gives_as, round_fails, rounds_end}
use Rattle.ir_bodies.proofs.RoundLaws.{one_more_block}
use Rattle.ir_bodies.proofs.Loops.{round_less, round_next}
use Rattle.ir_bodies.proofs.bodies.more_blocks.Goals as goal

pub returns-in_err-progress : goal.returns-in_err-progress
unfolding more_blocks
returns-in_err-progress c = let p = err_from_is_err_and c.from_residual.result c.from_residual.ensures.1 in rw (p.1, p.2) (round_fails (λ (x : Progress). next_set x.waits) (λ (x : Progress). next_block stated x.done x.waits) (λ (x : Progress). last_blocks x) c.loop-reader.progress c.loop-reader.reader c.in_err-progress.field-0.0 _ (sym c.goes_on.ensures ∙ c.loop-reader-test.true) c.in_err-progress.ensures c.loop-reader.invariant)

pub loop-reader-smaller : goal.loop-reader-smaller
loop-reader-smaller c = round_less ((λ (x : Progress). next_block stated x.done x.waits) c.loop-reader.progress) (one_more_block c.loop-reader.progress) c.in_ok-progress.progress c.loop-reader.reader c.next_block.new.reader c.in_ok-progress.ensures

pub loop-reader-preserved : goal.loop-reader-preserved
unfolding more_blocks
loop-reader-preserved c = round_next (λ (x : Progress). next_set x.waits) (λ (x : Progress). next_block stated x.done x.waits) (λ (x : Progress). last_blocks x) one_more_block c.loop-reader.progress c.in_ok-progress.progress c.loop-reader.reader c.next_block.new.reader _ (sym c.goes_on.ensures ∙ c.loop-reader-test.true) c.in_ok-progress.ensures c.loop-reader.invariant

pub returns : goal.returns
unfolding more_blocks
returns c = gives_as c.last_blocks.result c.last_blocks.new.reader ((last_blocks c.loop-reader.progress).parse c.loop-reader.reader) _ (rounds_end (λ (x : Progress). next_set x.waits) (λ (x : Progress). next_block stated x.done x.waits) (λ (x : Progress). last_blocks x) c.loop-reader.progress c.loop-reader.reader _ (sym c.goes_on.ensures ∙ c.loop-reader-test.false) c.loop-reader.invariant) c.last_blocks.ensures
