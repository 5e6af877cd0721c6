use Rattle.std.proofs.Common.{◌<◌, length}
use Rattle.ir_assigned.specs.Search.{IsLeading}
use Rattle.ir_assigned.proofs.search.Search.path.Given as goal

abbrev pub invariant-loop-from : goal.invariant-loop-from
invariant-loop-from l = record {
  within : l.from < length l.self.queue.items;
  leading : IsLeading l.fn.graph l.fn.aim l.self.queue.items l.at l.from l.path.items;
}

abbrev pub decreases-loop-from : goal.decreases-loop-from
decreases-loop-from l = l.from
