use Rattle.std.proofs.Common.{true, sym, ◌∙◌, refl}
use Rattle.std.specs.Prelude.{codes}
use Rattle.std.proofs.lemmas.Result.{err_from_is_err_and}
use Rattle.ir_lexer.specs.declared.table.Token.TheVariants as tokens
use Rattle.ir_grammar.specs.Tokens.{expect}
use Rattle.ir_grammar.specs.Operations.{cast_flag}
use Rattle.ir_grammar.proofs.Rules.{expects}
use Rattle.ir_phrases.proofs.Many.{skip_next, skip_ends, skip_fails, many_less}
use Rattle.ir_bodies.proofs.operations.cast_flags.Goals as goal

pub returns-in_err-cast_flag : goal.returns-in_err-cast_flag
returns-in_err-cast_flag c = let p = err_from_is_err_and c.from_residual.result c.from_residual.ensures.1 in rw (p.1, p.2) (skip_fails cast_flag (expect cast_flag) c.loop-reader.reader c.in_err-cast_flag.field-0.0 _ (sym c.is_cast_flag.ensures ∙ c.loop-reader-test.true) c.in_err-cast_flag.ensures c.loop-reader.invariant)

pub loop-reader-smaller : goal.loop-reader-smaller
loop-reader-smaller c = many_less {w = true} (expect cast_flag) _ (expects cast_flag (tokens.Word (codes "nuw")) refl) refl c.in_ok-cast_flag.field-0 c.loop-reader.reader c.cast_flag.new.reader c.in_ok-cast_flag.ensures

pub loop-reader-preserved : goal.loop-reader-preserved
loop-reader-preserved c = skip_next {w = true} cast_flag (expect cast_flag) _ (expects cast_flag (tokens.Word (codes "nuw")) refl) refl c.in_ok-cast_flag.field-0 c.loop-reader.reader c.cast_flag.new.reader _ (sym c.is_cast_flag.ensures ∙ c.loop-reader-test.true) c.in_ok-cast_flag.ensures c.loop-reader.invariant

pub returns : goal.returns
returns c = skip_ends cast_flag (expect cast_flag) c.loop-reader.reader _ (sym c.is_cast_flag.ensures ∙ c.loop-reader-test.false) c.loop-reader.invariant
