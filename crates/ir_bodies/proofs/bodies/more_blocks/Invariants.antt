use Rattle.std.proofs.Common.{◌≡◌, length}
use Rattle.ir_grammar.specs.Forms.{rounds}
use Rattle.ir_grammar.specs.declared.parts.Progress.{Progress}
use Rattle.ir_grammar.specs.Tokens.{stated}
use Rattle.ir_grammar.specs.Bodies.{next_set, next_block, last_blocks}
use Rattle.ir_bodies.proofs.bodies.more_blocks.Given as goal

abbrev pub invariant-loop-reader : goal.invariant-loop-reader
invariant-loop-reader l = (rounds (λ (x : Progress). next_set x.waits) (λ (x : Progress). next_block stated x.done x.waits) (λ (x : Progress). last_blocks x) l.progress).parse l.reader ≡ (rounds (λ (x : Progress). next_set x.waits) (λ (x : Progress). next_block stated x.done x.waits) (λ (x : Progress). last_blocks x) l.initial.progress).parse l.initial.reader

abbrev pub decreases-loop-reader : goal.decreases-loop-reader
decreases-loop-reader l = length l.reader.tokens
