use Rattle.std.proofs.Common.{length}
use Rattle.strong_components.specs.Walk.{state, IsClosing}
use Rattle.strong_components.proofs.walk.Walk.close.Given as goal

abbrev pub invariant-loop-self : goal.invariant-loop-self
invariant-loop-self l = IsClosing l.base (state l.initial.self) (state l.self)

abbrev pub decreases-loop-self : goal.decreases-loop-self
decreases-loop-self l = length l.self.stack.items
