use Rattle.std.proofs.Common.{◌≡◌, ◌++◌, length}
use Rattle.ir_lexer.specs.Strings.{unescaped}
use Rattle.ir_lexer.proofs.strings.unescaped.Given as goal

abbrev pub invariant-loop-byte : goal.invariant-loop-byte
invariant-loop-byte l = l.said ++ unescaped l.rest ≡ unescaped l.fn.raw

abbrev pub decreases-loop-byte : goal.decreases-loop-byte
decreases-loop-byte l = length l.rest
