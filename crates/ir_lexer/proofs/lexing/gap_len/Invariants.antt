use Rattle.std.proofs.Common.{◌≡◌, ◌+◌, false, drop}
use Rattle.ir_lexer.specs.Lexing.{gap_len}
use Rattle.ir_lexer.proofs.lexing.gap_len.Given as goal

abbrev pub invariant-loop-at : goal.invariant-loop-at
invariant-loop-at l = l.at + gap_len l.inside (drop l.at l.text) ≡ gap_len false l.text
