use Rattle.std.proofs.Common.{List, sym, ◌∙◌}
use Rattle.std.proofs.lemmas.Result.{err_from_is_err_and}
use Rattle.ir_grammar.specs.Forms.{ret}
use Rattle.ir_core.specs.declared.func.Instr.{Instr}
use Rattle.ir_grammar.specs.Tokens.{stated}
use Rattle.ir_grammar.specs.Operations.{line_set}
use Rattle.ir_grammar.specs.Bodies.{one_more_instr, code}
use Rattle.ir_phrases.proofs.Many.{round_fails, rounds_end}
use Rattle.ir_bodies.proofs.RoundLaws.{one_more_line}
use Rattle.ir_bodies.proofs.Loops.{round_less, round_next}
use Rattle.ir_bodies.proofs.blocks.code.Goals as goal

pub returns-in_err-code : goal.returns-in_err-code
unfolding code
returns-in_err-code c = let p = err_from_is_err_and c.from_residual.result c.from_residual.ensures.1 in rw (p.1, p.2) (round_fails (λ (x : List Instr). line_set) (one_more_instr stated) (λ (x : List Instr). ret x) c.loop-reader.code c.loop-reader.reader c.in_err-code.field-0.0 _ (sym c.is_line.ensures ∙ c.loop-reader-test.true) c.in_err-code.ensures c.loop-reader.invariant)

pub loop-reader-smaller : goal.loop-reader-smaller
loop-reader-smaller c = round_less ((one_more_instr stated) c.loop-reader.code) (one_more_line c.loop-reader.code) c.in_ok-code.code c.loop-reader.reader c.one_more_instr.new.reader c.in_ok-code.ensures

pub loop-reader-preserved : goal.loop-reader-preserved
unfolding code
loop-reader-preserved c = round_next (λ (x : List Instr). line_set) (one_more_instr stated) (λ (x : List Instr). ret x) one_more_line c.loop-reader.code c.in_ok-code.code c.loop-reader.reader c.one_more_instr.new.reader _ (sym c.is_line.ensures ∙ c.loop-reader-test.true) c.in_ok-code.ensures c.loop-reader.invariant

pub returns : goal.returns
unfolding code
returns c = rounds_end (λ (x : List Instr). line_set) (one_more_instr stated) (λ (x : List Instr). ret x) c.loop-reader.code c.loop-reader.reader _ (sym c.is_line.ensures ∙ c.loop-reader-test.false) c.loop-reader.invariant
