use Rattle.std.proofs.Common.{◌≡◌, ◌-◌, length, drop}
use Rattle.std.specs.List.{list_all}
use Rattle.ir_core.specs.Operands.{op_operands}
use Rattle.ir_verifier.specs.Faults.{is_known}
use Rattle.ir_verifier.proofs.references.op_values_known.Given as goal

abbrev pub invariant-loop-operand : goal.invariant-loop-operand
invariant-loop-operand l = list_all (is_known l.scope) (drop l.at (op_operands l.op)) ≡ list_all (is_known l.scope) (op_operands l.op)

abbrev pub decreases-loop-operand : goal.decreases-loop-operand
decreases-loop-operand l = length (op_operands l.op) - l.at
