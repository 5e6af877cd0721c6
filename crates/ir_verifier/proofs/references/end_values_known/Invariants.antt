use Rattle.std.proofs.Common.{◌≡◌, ◌-◌, length, drop}
use Rattle.std.specs.List.{list_all}
use Rattle.ir_core.specs.Operands.{end_operands}
use Rattle.ir_verifier.specs.Faults.{is_known}
use Rattle.ir_verifier.proofs.references.end_values_known.Given as goal

abbrev pub invariant-loop-operand : goal.invariant-loop-operand
invariant-loop-operand l = list_all (is_known l.scope) (drop l.at (end_operands l.end)) ≡ list_all (is_known l.scope) (end_operands l.end)

abbrev pub decreases-loop-operand : goal.decreases-loop-operand
decreases-loop-operand l = length (end_operands l.end) - l.at
