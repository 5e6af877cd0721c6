use Rattle.std.proofs.Common.{◌-◌, Some, length, take}
use Rattle.ir_core.specs.Formed.{used_by}
use Rattle.local_passes.specs.DropDead.{if_same}
use Rattle.local_passes.specs.NeedTables.{Adds}
use Rattle.local_passes.proofs.use_table.UseTable.add_instr.Given as goal

abbrev pub invariant-loop-o : goal.invariant-loop-o
invariant-loop-o l = Adds l.initial.self l.self (λ q. if_same q (Some l.r.0) (take l.at (used_by l.i)))

abbrev pub decreases-loop-o : goal.decreases-loop-o
decreases-loop-o l = length (used_by l.i) - l.at
