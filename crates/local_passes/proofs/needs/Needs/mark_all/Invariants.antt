use Rattle.std.proofs.Common.{take}
use Rattle.local_passes.specs.NeedTables.{Marks}
use Rattle.local_passes.proofs.needs.Needs.mark_all.Given as goal

abbrev pub invariant-loop-o : goal.invariant-loop-o
invariant-loop-o l = Marks l.initial.self l.self (take l.o-index l.operands)
