use Rattle.std.proofs.Common.{true, sym, ◌∙◌, refl}
use Rattle.std.specs.Prelude.{codes}
use Rattle.std.proofs.lemmas.Result.{err_from_is_err_and}
use Rattle.ir_lexer.specs.declared.table.Token.TheVariants as tokens
use Rattle.ir_grammar.specs.Tokens.{expect}
use Rattle.ir_grammar.specs.Entities.{before_name}
use Rattle.ir_grammar.proofs.Rules.{expects}
use Rattle.ir_phrases.proofs.Many.{skip_next, skip_ends, skip_fails, many_less}
use Rattle.ir_reader.proofs.functions.before_name.Goals as goal

pub returns-in_err-before_name : goal.returns-in_err-before_name
returns-in_err-before_name c = let p = err_from_is_err_and c.from_residual.result c.from_residual.ensures.1 in rw (p.1, p.2) (skip_fails before_name (expect before_name) c.loop-reader.reader c.in_err-before_name.field-0.0 _ (sym c.is_before_name.ensures ∙ c.loop-reader-test.true) c.in_err-before_name.ensures c.loop-reader.invariant)

pub loop-reader-smaller : goal.loop-reader-smaller
loop-reader-smaller c = many_less {w = true} (expect before_name) _ (expects before_name (tokens.Word (codes "nuw")) refl) refl c.in_ok-before_name.field-0 c.loop-reader.reader c.before_name.new.self c.in_ok-before_name.ensures

pub loop-reader-preserved : goal.loop-reader-preserved
loop-reader-preserved c = skip_next {w = true} before_name (expect before_name) _ (expects before_name (tokens.Word (codes "nuw")) refl) refl c.in_ok-before_name.field-0 c.loop-reader.reader c.before_name.new.self _ (sym c.is_before_name.ensures ∙ c.loop-reader-test.true) c.in_ok-before_name.ensures c.loop-reader.invariant

pub returns : goal.returns
returns c = skip_ends before_name (expect before_name) c.loop-reader.reader _ (sym c.is_before_name.ensures ∙ c.loop-reader-test.false) c.loop-reader.invariant
