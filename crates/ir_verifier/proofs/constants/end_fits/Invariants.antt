use Rattle.std.proofs.Common.{◌≡◌, ◌-◌, length, drop}
use Rattle.std.specs.List.{list_all}
use Rattle.ir_core.specs.Operands.{end_operands}
use Rattle.ir_verifier.specs.Faults.{operand_fits}
use Rattle.ir_verifier.proofs.constants.end_fits.Given as goal

abbrev pub invariant-loop-operand : goal.invariant-loop-operand
invariant-loop-operand l = list_all operand_fits (drop l.at (end_operands l.end)) ≡ list_all operand_fits (end_operands l.end)

abbrev pub decreases-loop-operand : goal.decreases-loop-operand
decreases-loop-operand l = length (end_operands l.end) - l.at
