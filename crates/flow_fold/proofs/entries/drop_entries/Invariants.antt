use Rattle.std.proofs.Common.{◌≡◌, ◌++◌, map, take, drop}
use Rattle.flow_fold.specs.Blocks.{with_entries}
use Rattle.flow_fold.specs.Changes.{entry_stays}
use Rattle.flow_fold.proofs.entries.drop_entries.Given as goal

abbrev pub invariant-loop-at : goal.invariant-loop-at
invariant-loop-at l = l.phis ≡ map (with_entries (entry_stays l.changes l.b.0)) (take l.at l.initial.phis) ++ drop l.at l.initial.phis
