use Rattle.std.proofs.Common.{true, sym, ◌∙◌, refl}
use Rattle.std.specs.Prelude.{codes}
use Rattle.std.proofs.lemmas.Result.{err_from_is_err_and}
use Rattle.ir_lexer.specs.declared.table.Token.TheVariants as tokens
use Rattle.ir_grammar.specs.Tokens.{expect}
use Rattle.ir_grammar.specs.Operations.{bin_flag}
use Rattle.ir_grammar.proofs.Rules.{expects}
use Rattle.ir_phrases.proofs.Many.{skip_next, skip_ends, skip_fails, many_less}
use Rattle.ir_bodies.proofs.operations.bin_flags.Goals as goal

pub returns-in_err-bin_flag : goal.returns-in_err-bin_flag
returns-in_err-bin_flag c = let p = err_from_is_err_and c.from_residual.result c.from_residual.ensures.1 in rw (p.1, p.2) (skip_fails bin_flag (expect bin_flag) c.loop-reader.reader c.in_err-bin_flag.field-0.0 _ (sym c.is_bin_flag.ensures ∙ c.loop-reader-test.true) c.in_err-bin_flag.ensures c.loop-reader.invariant)

pub loop-reader-smaller : goal.loop-reader-smaller
loop-reader-smaller c = many_less {w = true} (expect bin_flag) _ (expects bin_flag (tokens.Word (codes "nuw")) refl) refl c.in_ok-bin_flag.field-0 c.loop-reader.reader c.bin_flag.new.reader c.in_ok-bin_flag.ensures

pub loop-reader-preserved : goal.loop-reader-preserved
loop-reader-preserved c = skip_next {w = true} bin_flag (expect bin_flag) _ (expects bin_flag (tokens.Word (codes "nuw")) refl) refl c.in_ok-bin_flag.field-0 c.loop-reader.reader c.bin_flag.new.reader _ (sym c.is_bin_flag.ensures ∙ c.loop-reader-test.true) c.in_ok-bin_flag.ensures c.loop-reader.invariant

pub returns : goal.returns
returns c = skip_ends bin_flag (expect bin_flag) c.loop-reader.reader _ (sym c.is_bin_flag.ensures ∙ c.loop-reader-test.false) c.loop-reader.invariant
