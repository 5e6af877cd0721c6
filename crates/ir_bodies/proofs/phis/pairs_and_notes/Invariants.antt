use Rattle.std.proofs.Common.{◌≡◌, Bool, List, length}
use Rattle.ir_core.specs.declared.op.Pair.{Pair}
use Rattle.ir_grammar.specs.Forms.{ret, rounds}
use Rattle.ir_grammar.specs.Tokens.{stated, sign}
use Rattle.ir_grammar.specs.Operations.{one_listed, pair}
use Rattle.ir_bodies.proofs.phis.pairs_and_notes.Given as goal

abbrev pub invariant-loop-reader : goal.invariant-loop-reader
invariant-loop-reader l = (rounds (λ (x : Bool × List Pair). sign 44) (one_listed (pair stated)) (λ x. ret x.1) l.so_far).parse l.reader ≡ (rounds (λ (x : Bool × List Pair). sign 44) (one_listed (pair stated)) (λ x. ret x.1) l.initial.so_far).parse l.initial.reader

abbrev pub decreases-loop-reader : goal.decreases-loop-reader
decreases-loop-reader l = length l.reader.tokens
