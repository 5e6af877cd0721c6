use Rattle.std.proofs.Common.{◌≡◌, length}
use Rattle.ir_grammar.specs.Forms.{ret, rounds}
use Rattle.std.specs.Prelude.{ℕ, Option, None}
use Rattle.ir_grammar.specs.Tokens.{stated, sign}
use Rattle.ir_grammar.specs.Entities.{one_global_end}
use Rattle.ir_reader.proofs.entities.global_end.Given as goal

abbrev pub invariant-loop-reader : goal.invariant-loop-reader
invariant-loop-reader l = (rounds (λ (x : Option ℕ). sign 44) (one_global_end stated) (λ (x : Option ℕ). ret x) l.align).parse l.reader ≡ (rounds (λ (x : Option ℕ). sign 44) (one_global_end stated) (λ (x : Option ℕ). ret x) None).parse l.initial.reader

abbrev pub decreases-loop-reader : goal.decreases-loop-reader
decreases-loop-reader l = length l.reader.tokens
