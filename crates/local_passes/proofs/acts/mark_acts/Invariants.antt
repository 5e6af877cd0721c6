use Rattle.std.proofs.Common.{take}
use Rattle.std.specs.List.{flat_map}
use Rattle.local_passes.specs.DropDead.{acts_in}
use Rattle.local_passes.specs.NeedTables.{Marks}
use Rattle.local_passes.proofs.acts.mark_acts.Given as goal

abbrev pub invariant-loop-block : goal.invariant-loop-block
invariant-loop-block l = Marks l.initial.needs l.needs (flat_map acts_in (take l.block-index l.blocks))
