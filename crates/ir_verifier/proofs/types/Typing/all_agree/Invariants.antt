use Rattle.std.proofs.Common.{◌≡◌, drop}
use Rattle.std.specs.List.{list_all}
use Rattle.ir_verifier.specs.TypeFaults.{operand_agrees}
use Rattle.ir_verifier.proofs.types.Typing.all_agree.Given as goal

abbrev pub invariant-loop-operand : goal.invariant-loop-operand
invariant-loop-operand l = list_all (operand_agrees l.self) (drop l.operand-index l.operands) ≡ list_all (operand_agrees l.self) l.operands
