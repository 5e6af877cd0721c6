use Rattle.std.proofs.Common.{◌≡◌, length}
use Rattle.ir_grammar.specs.Tokens.{skip, expect}
use Rattle.ir_grammar.specs.Values.{gep_flag}
use Rattle.ir_phrases.proofs.reader.Reader.gep_flags.Given as goal

abbrev pub invariant-loop-self : goal.invariant-loop-self
invariant-loop-self l = (skip gep_flag (expect gep_flag)).parse l.self ≡ (skip gep_flag (expect gep_flag)).parse l.initial.self

abbrev pub decreases-loop-self : goal.decreases-loop-self
decreases-loop-self l = length l.self.tokens
