use Rattle.component_split.specs.Classes.{IsOnWay}
use Rattle.component_split.proofs.classes.find.Given as goal

abbrev pub invariant-loop-at : goal.invariant-loop-at
invariant-loop-at l = IsOnWay l.fn.parents.items l.of l.parents.items l.at

abbrev pub decreases-loop-at : goal.decreases-loop-at
decreases-loop-at l = l.at
