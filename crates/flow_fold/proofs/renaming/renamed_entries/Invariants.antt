use Rattle.std.proofs.Common.{◌≡◌, map, take}
use Rattle.flow_fold.specs.Blocks.{entry_renamed}
use Rattle.flow_fold.specs.Merges.{name_in}
use Rattle.flow_fold.proofs.renaming.renamed_entries.Given as goal

abbrev pub invariant-loop-entry : goal.invariant-loop-entry
invariant-loop-entry l = l.new ≡ map (entry_renamed (name_in l.names)) (take l.entry-index l.entries)
