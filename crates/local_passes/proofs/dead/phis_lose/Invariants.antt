use Rattle.std.proofs.Common.{◌≡◌, not, drop}
use Rattle.std.specs.List.{list_any}
use Rattle.ir_core.specs.declared.flat.Phi.{Phi}
use Rattle.flow_fold.specs.Walks.{marked_in}
use Rattle.local_passes.proofs.dead.phis_lose.Given as goal

abbrev pub invariant-loop-phi : goal.invariant-loop-phi
invariant-loop-phi l = list_any (λ (f : Phi). not (marked_in l.marks f.reg.0)) (drop l.phi-index l.phis) ≡ list_any (λ (f : Phi). not (marked_in l.marks f.reg.0)) l.phis
