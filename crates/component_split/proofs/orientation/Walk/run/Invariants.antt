use Rattle.std.proofs.Common.{◌+◌, length}
use Rattle.component_split.specs.Walk.{left, IsWalk}
use Rattle.component_split.proofs.orientation.Walk.run.Given as goal

abbrev pub invariant-loop-arc : goal.invariant-loop-arc
invariant-loop-arc l = IsWalk (length l.arcs) (length l.fn.self.forth.items) l.self

abbrev pub decreases-loop-arc : goal.decreases-loop-arc
decreases-loop-arc l = left l.arcs l.self.seen.items + length l.self.next.items
