use Rattle.std.proofs.Common.{◌≡◌, ◌++◌, length}
use Rattle.std.specs.Prelude.{reverse}
use Rattle.std.specs.List.{filter_map}
use Rattle.flow_fold.specs.Walks.{marked_in}
use Rattle.local_passes.specs.DropDead.{instr_kept}
use Rattle.local_passes.proofs.dead.code_kept.Given as goal

abbrev pub invariant-loop-instr : goal.invariant-loop-instr
invariant-loop-instr l = l.new ++ filter_map (instr_kept (marked_in l.marks)) (reverse l.left) ≡ filter_map (instr_kept (marked_in l.marks)) l.fn.code

abbrev pub decreases-loop-instr : goal.decreases-loop-instr
decreases-loop-instr l = length l.left
