use Rattle.std.proofs.Common.{◌≡◌, ◌-◌, length, drop}
use Rattle.std.specs.List.{list_all}
use Rattle.ir_core.specs.Parts.{targets}
use Rattle.ir_verifier.specs.Faults.{is_label}
use Rattle.ir_verifier.proofs.references.successors_known.Given as goal

abbrev pub invariant-loop-label : goal.invariant-loop-label
invariant-loop-label l = list_all (is_label l.scope) (drop l.at (targets l.end)) ≡ list_all (is_label l.scope) (targets l.end)

abbrev pub decreases-loop-label : goal.decreases-loop-label
decreases-loop-label l = length (targets l.end) - l.at
