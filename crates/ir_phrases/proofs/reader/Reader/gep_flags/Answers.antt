use Rattle.std.proofs.Common.{true, sym, ◌∙◌, refl}
use Rattle.std.specs.Prelude.{codes}
use Rattle.std.proofs.lemmas.Result.{err_from_is_err_and}
use Rattle.ir_lexer.specs.declared.table.Token.TheVariants as tokens
use Rattle.ir_grammar.specs.Tokens.{expect}
use Rattle.ir_grammar.specs.Values.{gep_flag, gep_flags}
use Rattle.ir_grammar.proofs.Rules.{expects}
use Rattle.ir_phrases.proofs.Many.{skip_next, skip_ends, skip_fails, many_less}
use Rattle.ir_phrases.proofs.reader.Reader.gep_flags.Goals as goal

pub returns-in_err-gep_flag : goal.returns-in_err-gep_flag
unfolding gep_flags
returns-in_err-gep_flag c = let p = err_from_is_err_and c.from_residual.result c.from_residual.ensures.1 in rw (p.1, p.2) (skip_fails gep_flag (expect gep_flag) c.loop-self.self c.in_err-gep_flag.field-0.0 _ (sym c.is_gep_flag.ensures ∙ c.loop-self-test.true) c.in_err-gep_flag.ensures c.loop-self.invariant)

pub loop-self-smaller : goal.loop-self-smaller
loop-self-smaller c = many_less {w = true} (expect gep_flag) _ (expects gep_flag (tokens.Word (codes "inbounds")) refl) refl c.in_ok-gep_flag.field-0 c.loop-self.self c.gep_flag.new.self c.in_ok-gep_flag.ensures

pub loop-self-preserved : goal.loop-self-preserved
loop-self-preserved c = skip_next {w = true} gep_flag (expect gep_flag) _ (expects gep_flag (tokens.Word (codes "inbounds")) refl) refl c.in_ok-gep_flag.field-0 c.loop-self.self c.gep_flag.new.self _ (sym c.is_gep_flag.ensures ∙ c.loop-self-test.true) c.in_ok-gep_flag.ensures c.loop-self.invariant

pub returns : goal.returns
unfolding gep_flags
returns c = skip_ends gep_flag (expect gep_flag) c.loop-self.self _ (sym c.is_gep_flag.ensures ∙ c.loop-self-test.false) c.loop-self.invariant
