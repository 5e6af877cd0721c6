use Rattle.std.proofs.Common.{◌≡◌, drop}
use Rattle.std.specs.List.{list_any}
use Rattle.flow_fold.specs.Walks.{marked_in}
use Rattle.local_passes.specs.DeadTests.{loses}
use Rattle.local_passes.proofs.dead.code_loses.Given as goal

abbrev pub invariant-loop-instr : goal.invariant-loop-instr
invariant-loop-instr l = list_any (loses (marked_in l.marks)) (drop l.instr-index l.code) ≡ list_any (loses (marked_in l.marks)) l.code
