use Rattle.std.proofs.Common.{take}
use Rattle.std.specs.List.{flat_map}
use Rattle.ir_core.specs.Formed.{written_by, used_by}
use Rattle.local_passes.specs.DropDead.{if_same}
use Rattle.local_passes.specs.NeedTables.{Adds}
use Rattle.local_passes.proofs.use_table.UseTable.add_code.Given as goal

abbrev pub invariant-loop-instr : goal.invariant-loop-instr
invariant-loop-instr l = Adds l.initial.self l.self (λ q. flat_map (λ i. if_same q (written_by i) (used_by i)) (take l.instr-index l.code))
