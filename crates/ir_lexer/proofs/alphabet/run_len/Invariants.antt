use Rattle.std.proofs.Common.{◌≡◌, ◌+◌, drop}
use Rattle.std.specs.List.{prefix_len}
use Rattle.ir_lexer.specs.Alphabet.{is_run_byte}
use Rattle.ir_lexer.proofs.alphabet.run_len.Given as goal

abbrev pub invariant-loop-at : goal.invariant-loop-at
invariant-loop-at l = l.at + prefix_len is_run_byte (drop l.at l.text) ≡ prefix_len is_run_byte l.text
