use Rattle.std.proofs.Common.{◌≡◌, List, length}
use Rattle.ir_grammar.specs.Forms.{ret, rounds}
use Rattle.ir_core.specs.declared.func.Instr.{Instr}
use Rattle.ir_grammar.specs.Tokens.{stated}
use Rattle.ir_grammar.specs.Operations.{line_set}
use Rattle.ir_grammar.specs.Bodies.{one_more_instr}
use Rattle.ir_bodies.proofs.blocks.code.Given as goal

abbrev pub invariant-loop-reader : goal.invariant-loop-reader
invariant-loop-reader l = (rounds (λ (x : List Instr). line_set) (one_more_instr stated) (λ (x : List Instr). ret x) l.code).parse l.reader ≡ (rounds (λ (x : List Instr). line_set) (one_more_instr stated) (λ (x : List Instr). ret x) l.initial.code).parse l.initial.reader

abbrev pub decreases-loop-reader : goal.decreases-loop-reader
decreases-loop-reader l = length l.reader.tokens
