use Rattle.std.proofs.Common.{◌≡◌, drop}
use Rattle.ir_verifier.specs.PhiFaults.{are_listed}
use Rattle.ir_verifier.proofs.phis.Values.have_all.Given as goal

abbrev pub invariant-loop-label : goal.invariant-loop-label
invariant-loop-label l = are_listed l.self.labels (drop l.label-index l.labels) ≡ are_listed l.self.labels l.labels
