use Rattle.std.proofs.Common.{length}
use Rattle.ir_lexer.specs.Lexing.{whole, Passes}
use Rattle.ir_lexer.proofs.listing.tokens.Given as goal

abbrev pub invariant-loop-spots : goal.invariant-loop-spots
invariant-loop-spots l = Passes (whole l.bytes) l.spots l.lexer

abbrev pub decreases-loop-spots : goal.decreases-loop-spots
decreases-loop-spots l = length l.lexer.bytes
