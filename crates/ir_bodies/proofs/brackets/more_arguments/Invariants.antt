use Rattle.std.proofs.Common.{◌≡◌, List, length}
use Rattle.ir_grammar.specs.Forms.{ret, rounds}
use Rattle.ir_core.specs.declared.op.TypedOperand.{TypedOperand}
use Rattle.ir_grammar.specs.Tokens.{stated, sign}
use Rattle.ir_grammar.specs.Attributes.{argument}
use Rattle.ir_grammar.specs.Operations.{one_more_item}
use Rattle.ir_bodies.proofs.brackets.more_arguments.Given as goal

abbrev pub invariant-loop-reader : goal.invariant-loop-reader
invariant-loop-reader l = (rounds (λ (x : List TypedOperand). sign 44) (one_more_item stated (argument stated)) (λ (x : List TypedOperand). ret x) l.arguments).parse l.reader ≡ (rounds (λ (x : List TypedOperand). sign 44) (one_more_item stated (argument stated)) (λ (x : List TypedOperand). ret x) l.initial.arguments).parse l.initial.reader

abbrev pub decreases-loop-reader : goal.decreases-loop-reader
decreases-loop-reader l = length l.reader.tokens
