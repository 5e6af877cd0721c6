use Rattle.std.proofs.Common.{◌≡◌, length}
use Rattle.ir_grammar.specs.declared.parts.Stand.TheVariants.{Free}
use Rattle.ir_grammar.specs.Forms.{rounds}
use Rattle.ir_grammar.specs.Tokens.{stated}
use Rattle.ir_grammar.specs.Attributes.{more_set, more, last}
use Rattle.ir_phrases.proofs.reader.Reader.argument_value.Given as goal

abbrev pub invariant-loop-self : goal.invariant-loop-self
invariant-loop-self l = (rounds more_set more (last stated) l.stand).parse l.self ≡ (rounds more_set more (last stated) Free).parse l.initial.self

abbrev pub decreases-loop-self : goal.decreases-loop-self
decreases-loop-self l = length l.self.tokens
