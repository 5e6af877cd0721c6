use Rattle.std.proofs.Common.{◌≡◌, length}
use Rattle.ir_grammar.specs.Names.{written, written_after}
use Rattle.ir_phrases.proofs.names.written.Given as goal

abbrev pub invariant-loop-rest : goal.invariant-loop-rest
invariant-loop-rest l = written_after l.number l.rest ≡ written l.fn.digits

abbrev pub decreases-loop-rest : goal.decreases-loop-rest
decreases-loop-rest l = length l.rest
