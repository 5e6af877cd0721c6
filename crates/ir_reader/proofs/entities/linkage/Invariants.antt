use Rattle.std.proofs.Common.{◌≡◌, Bool, length}
use Rattle.ir_grammar.specs.Forms.{ret, rounds}
use Rattle.std.proofs.Common.{false}
use Rattle.ir_grammar.specs.Tokens.{words_of}
use Rattle.ir_grammar.specs.Entities.{global_words, one_linkage}
use Rattle.ir_reader.proofs.entities.linkage.Given as goal

abbrev pub invariant-loop-reader : goal.invariant-loop-reader
invariant-loop-reader l = (rounds (λ (x : Bool). words_of global_words) (one_linkage) (λ (x : Bool). ret x) l.internal).parse l.reader ≡ (rounds (λ (x : Bool). words_of global_words) (one_linkage) (λ (x : Bool). ret x) false).parse l.initial.reader

abbrev pub decreases-loop-reader : goal.decreases-loop-reader
decreases-loop-reader l = length l.reader.tokens
