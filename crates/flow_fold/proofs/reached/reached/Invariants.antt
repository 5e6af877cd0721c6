use Rattle.flow_fold.specs.Walks.{work}
use Rattle.flow_fold.proofs.Walking.{IsWalk}
use Rattle.flow_fold.proofs.reached.reached.Given as goal

abbrev pub invariant-loop-b : goal.invariant-loop-b
invariant-loop-b l = IsWalk l.body l.walk

abbrev pub decreases-loop-b : goal.decreases-loop-b
decreases-loop-b l = work l.walk
