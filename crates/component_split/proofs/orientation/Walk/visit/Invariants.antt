use Rattle.std.proofs.Common.{◌≡◌, ◌≤◌, ◌+◌, true, length, set}
use Rattle.component_split.specs.Walk.{IsWalk}
use Rattle.component_split.proofs.orientation.Walk.visit.Given as goal

abbrev pub invariant-loop-arc : goal.invariant-loop-arc
invariant-loop-arc l = record {
  walk : IsWalk (length l.arcs) (length l.fn.self.forth.items) l.self;
  seen : l.self.seen.items ≡ set l.fn.self.seen.items l.at true;
  next : length l.self.next.items ≤ length l.fn.self.next.items + l.arc-index;
}
