use Rattle.std.proofs.Common.{◌≡◌, ◌≤◌, ◌-◌, length}
use Rattle.ir_assigned.specs.Search.{state, Inv, Onward, left}
use Rattle.ir_assigned.proofs.search.Search.gather.Given as goal

abbrev pub invariant-loop-at : goal.invariant-loop-at
invariant-loop-at l = record {
  inv : Inv l.graph l.aim l.at (state l.self);
  onward : Onward l.graph l.aim (state l.initial.self) (state l.self);
  left : left l.aim.round (state l.self) ≡ left l.aim.round (state l.initial.self);
  within : l.at ≤ length l.self.queue.items;
}

abbrev pub decreases-loop-at : goal.decreases-loop-at
decreases-loop-at l = left l.aim.round (state l.initial.self) - l.at
