use Rattle.std.proofs.Common.{◌≡◌, map, take}
use Rattle.local_passes.specs.CopyTables.{ends_told}
use Rattle.local_passes.specs.LocalCopies.{entry_copied}
use Rattle.local_passes.proofs.copied_phis.entries_from_source.Given as goal

abbrev pub invariant-loop-entry : goal.invariant-loop-entry
invariant-loop-entry l = l.new ≡ map (entry_copied (ends_told l.table.definitions.items l.spans)) (take l.entry-index l.entries)
