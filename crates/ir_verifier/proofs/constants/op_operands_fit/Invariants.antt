use Rattle.std.proofs.Common.{◌≡◌, ◌-◌, length, drop}
use Rattle.std.specs.List.{list_all}
use Rattle.ir_core.specs.Operands.{op_operands}
use Rattle.ir_verifier.specs.Faults.{operand_fits}
use Rattle.ir_verifier.proofs.constants.op_operands_fit.Given as goal

abbrev pub invariant-loop-operand : goal.invariant-loop-operand
invariant-loop-operand l = list_all operand_fits (drop l.at (op_operands l.op)) ≡ list_all operand_fits (op_operands l.op)

abbrev pub decreases-loop-operand : goal.decreases-loop-operand
decreases-loop-operand l = length (op_operands l.op) - l.at
