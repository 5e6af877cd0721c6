use Rattle.std.proofs.Common.{◌≡◌, map, take}
use Rattle.std.specs.List.{filter}
use Rattle.flow_fold.specs.Blocks.{number_of, entry_renamed}
use Rattle.flow_fold.specs.Walks.{marked_in}
use Rattle.flow_fold.proofs.remaining.entries_left.Given as goal

abbrev pub invariant-loop-entry : goal.invariant-loop-entry
invariant-loop-entry l = l.left ≡ map (entry_renamed (number_of (marked_in l.marks))) (filter (λ e. marked_in l.marks e.from.0) (take l.entry-index l.entries))
