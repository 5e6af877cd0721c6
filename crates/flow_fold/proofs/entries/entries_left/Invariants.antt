use Rattle.std.proofs.Common.{◌≡◌, take}
use Rattle.std.specs.List.{filter}
use Rattle.flow_fold.specs.Changes.{entry_stays}
use Rattle.flow_fold.proofs.entries.entries_left.Given as goal

abbrev pub invariant-loop-entry : goal.invariant-loop-entry
invariant-loop-entry l = l.left ≡ filter (entry_stays l.changes l.b.0) (take l.entry-index l.entries)
