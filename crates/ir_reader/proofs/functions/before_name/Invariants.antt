use Rattle.std.proofs.Common.{◌≡◌, length}
use Rattle.ir_grammar.specs.Tokens.{skip, expect}
use Rattle.ir_grammar.specs.Entities.{before_name}
use Rattle.ir_reader.proofs.functions.before_name.Given as goal

abbrev pub invariant-loop-reader : goal.invariant-loop-reader
invariant-loop-reader l = (skip before_name (expect before_name)).parse l.reader ≡ (skip before_name (expect before_name)).parse l.initial.reader

abbrev pub decreases-loop-reader : goal.decreases-loop-reader
decreases-loop-reader l = length l.reader.tokens
