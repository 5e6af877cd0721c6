use Rattle.std.proofs.Common.{◌≡◌, ◌++◌, length}
use Rattle.std.specs.Prelude.{reverse}
use Rattle.std.specs.List.{filter}
use Rattle.ir_core.specs.declared.flat.Phi.{Phi}
use Rattle.flow_fold.specs.Walks.{marked_in}
use Rattle.local_passes.proofs.dead.phis_kept.Given as goal

abbrev pub invariant-loop-phi : goal.invariant-loop-phi
invariant-loop-phi l = l.new ++ filter (λ (f : Phi). marked_in l.marks f.reg.0) (reverse l.left) ≡ filter (λ (f : Phi). marked_in l.marks f.reg.0) l.fn.phis

abbrev pub decreases-loop-phi : goal.decreases-loop-phi
decreases-loop-phi l = length l.left
