use Rattle.std.proofs.Common.{take}
use Rattle.std.specs.List.{flat_map}
use Rattle.local_passes.specs.DropDead.{used_by_act}
use Rattle.local_passes.specs.NeedTables.{Marks}
use Rattle.local_passes.proofs.acts.mark_code.Given as goal

abbrev pub invariant-loop-instr : goal.invariant-loop-instr
invariant-loop-instr l = Marks l.initial.needs l.needs (flat_map used_by_act (take l.instr-index l.code))
