use Rattle.std.proofs.Common.{◌≡◌, map, take}
use Rattle.const_fold.specs.FoldConstants.{entry_with}
use Rattle.const_fold.specs.FactTables.{facts_in}
use Rattle.const_fold.proofs.folding.known_entries.Given as goal

abbrev pub invariant-loop-entry : goal.invariant-loop-entry
invariant-loop-entry l = l.new ≡ map (entry_with (facts_in l.facts)) (take l.entry-index l.entries)
