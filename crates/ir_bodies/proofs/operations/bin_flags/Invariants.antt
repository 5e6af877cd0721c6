use Rattle.std.proofs.Common.{◌≡◌, length}
use Rattle.ir_grammar.specs.Tokens.{skip, expect}
use Rattle.ir_grammar.specs.Operations.{bin_flag}
use Rattle.ir_bodies.proofs.operations.bin_flags.Given as goal

abbrev pub invariant-loop-reader : goal.invariant-loop-reader
invariant-loop-reader l = (skip bin_flag (expect bin_flag)).parse l.reader ≡ (skip bin_flag (expect bin_flag)).parse l.initial.reader

abbrev pub decreases-loop-reader : goal.decreases-loop-reader
decreases-loop-reader l = length l.reader.tokens
