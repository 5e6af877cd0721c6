use Rattle.std.proofs.Common.{◌≡◌, ◌++◌, map, length}
use Rattle.std.specs.Prelude.{reverse}
use Rattle.local_passes.specs.CopyTables.{ends_told, phis_copied}
use Rattle.local_passes.proofs.copied_phis.replace_phis.Given as goal

abbrev pub invariant-loop-block : goal.invariant-loop-block
invariant-loop-block l = l.new ++ map (phis_copied (ends_told l.table.definitions.items l.spans)) (reverse l.left) ≡ map (phis_copied (ends_told l.table.definitions.items l.spans)) l.fn.blocks

abbrev pub decreases-loop-block : goal.decreases-loop-block
decreases-loop-block l = length l.left
