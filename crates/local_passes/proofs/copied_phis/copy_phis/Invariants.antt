use Rattle.std.proofs.Common.{◌≡◌, ◌++◌, map, take, drop}
use Rattle.local_passes.specs.CopyTables.{ends_told}
use Rattle.local_passes.specs.LocalCopies.{phi_copied}
use Rattle.local_passes.proofs.copied_phis.copy_phis.Given as goal

abbrev pub invariant-loop-at : goal.invariant-loop-at
invariant-loop-at l = l.phis ≡ map (phi_copied (ends_told l.table.definitions.items l.spans)) (take l.at l.initial.phis) ++ drop l.at l.initial.phis
