use Rattle.std.proofs.Common.{◌≡◌, ◌-◌, length, drop}
use Rattle.std.specs.List.{list_all}
use Rattle.ir_core.specs.Parts.{op_labels}
use Rattle.ir_verifier.specs.Faults.{is_label}
use Rattle.ir_verifier.proofs.references.op_labels_known.Given as goal

abbrev pub invariant-loop-label : goal.invariant-loop-label
invariant-loop-label l = list_all (is_label l.scope) (drop l.at (op_labels l.op)) ≡ list_all (is_label l.scope) (op_labels l.op)

abbrev pub decreases-loop-label : goal.decreases-loop-label
decreases-loop-label l = length (op_labels l.op) - l.at
