use Rattle.std.proofs.Common.{◌≡◌, true, length, []}
use Rattle.ir_grammar.specs.Types.{type_set}
use Rattle.ir_grammar.specs.Tokens.{many, stated}
use Rattle.ir_grammar.specs.Bodies.{switch_case}
use Rattle.ir_bodies.proofs.terminators.switch_cases.Given as goal

abbrev pub invariant-loop-reader : goal.invariant-loop-reader
invariant-loop-reader l = (many (type_set true) (switch_case stated) l.cases).parse l.reader ≡ (many (type_set true) (switch_case stated) []).parse l.initial.reader

abbrev pub decreases-loop-reader : goal.decreases-loop-reader
decreases-loop-reader l = length l.reader.tokens
