use Rattle.std.proofs.Common.{◌≡◌, length}
use Rattle.ir_core.specs.Ends.{AreRight}
use Rattle.ir_core.proofs.chains.go_back.Given as goal

abbrev pub invariant-loop-x : goal.invariant-loop-x
invariant-loop-x l = record {
  right : AreRight l.chains.items l.defs;
  len : length l.chains.items ≡ length l.initial.chains.items;
}

abbrev pub decreases-loop-x : goal.decreases-loop-x
decreases-loop-x l = length l.way.items
