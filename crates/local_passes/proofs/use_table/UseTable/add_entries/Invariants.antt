use Rattle.std.proofs.Common.{Some, map, take}
use Rattle.ir_core.specs.declared.flat.Entry.{Entry}
use Rattle.local_passes.specs.DropDead.{if_same}
use Rattle.local_passes.specs.NeedTables.{Adds}
use Rattle.local_passes.proofs.use_table.UseTable.add_entries.Given as goal

abbrev pub invariant-loop-entry : goal.invariant-loop-entry
invariant-loop-entry l = Adds l.initial.self l.self (λ q. if_same q (Some l.r.0) (map (λ (e : Entry). e.value) (take l.entry-index l.entries)))
