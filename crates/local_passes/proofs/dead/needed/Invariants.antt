use Rattle.local_passes.specs.NeedTables.{work}
use Rattle.local_passes.proofs.NeedWalk.{IsNeeding}
use Rattle.local_passes.proofs.dead.needed.Given as goal

abbrev pub invariant-loop-r : goal.invariant-loop-r
invariant-loop-r l = IsNeeding l.body l.needs

abbrev pub decreases-loop-r : goal.decreases-loop-r
decreases-loop-r l = work l.needs
