use Rattle.std.proofs.Common.{◌≡◌, [], ◌∷◌, length, false}
use Rattle.std.specs.Prelude.{reverse}
use Rattle.ir_grammar.specs.Groups.{inside_at}
use Rattle.ir_phrases.proofs.reader.Reader.inside.Given as goal

abbrev pub invariant-loop-awaited : goal.invariant-loop-awaited
invariant-loop-awaited l = inside_at l.self.tokens (reverse l.signs) l.noinline l.self.names ≡ inside_at l.initial.self.tokens (l.last ∷ []) false l.initial.self.names

abbrev pub decreases-loop-awaited : goal.decreases-loop-awaited
decreases-loop-awaited l = length l.self.tokens
