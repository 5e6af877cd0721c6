use Rattle.std.proofs.Common.{take}
use Rattle.std.specs.List.{flat_map}
use Rattle.local_passes.specs.DropDead.{used_in}
use Rattle.local_passes.specs.NeedTables.{Adds}
use Rattle.local_passes.proofs.use_table.UseTable.add_blocks.Given as goal

abbrev pub invariant-loop-block : goal.invariant-loop-block
invariant-loop-block l = Adds l.initial.self l.self (λ q. flat_map (used_in q) (take l.block-index l.blocks))
