use Rattle.std.proofs.Common.{◌≡◌, min, sum_by, take}
use Rattle.ir_core.specs.Weight.{phi_weight}
use Rattle.ir_core.proofs.weigh.weight_of_phis.Given as goal

abbrev pub invariant-loop-phi : goal.invariant-loop-phi
invariant-loop-phi l = l.total ≡ min (sum_by phi_weight (take l.phi-index l.phis)) 18446744073709551615
