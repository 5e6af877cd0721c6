use Rattle.std.proofs.Common.{◌≡◌, List, length}
use Rattle.ir_grammar.specs.Forms.{ret, rounds}
use Rattle.ir_core.specs.declared.func.Param.{Param}
use Rattle.ir_grammar.specs.Tokens.{stated, sign}
use Rattle.ir_grammar.specs.Entities.{param}
use Rattle.ir_grammar.specs.Operations.{one_more_item}
use Rattle.ir_bodies.proofs.brackets.more_params.Given as goal

abbrev pub invariant-loop-reader : goal.invariant-loop-reader
invariant-loop-reader l = (rounds (λ (x : List Param). sign 44) (one_more_item stated (param stated)) (λ (x : List Param). ret x) l.params).parse l.reader ≡ (rounds (λ (x : List Param). sign 44) (one_more_item stated (param stated)) (λ (x : List Param). ret x) l.initial.params).parse l.initial.reader

abbrev pub decreases-loop-reader : goal.decreases-loop-reader
decreases-loop-reader l = length l.reader.tokens
