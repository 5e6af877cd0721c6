use Rattle.std.proofs.Common.{◌≡◌, ◌++◌, map, take, drop}
use Rattle.flow_fold.specs.Numbering.{phi_left}
use Rattle.flow_fold.specs.Walks.{marked_in}
use Rattle.flow_fold.proofs.remaining.keep_entries.Given as goal

abbrev pub invariant-loop-at : goal.invariant-loop-at
invariant-loop-at l = l.phis ≡ map (phi_left (marked_in l.marks)) (take l.at l.initial.phis) ++ drop l.at l.initial.phis
