use Rattle.std.proofs.Common.{◌≡◌, drop, map}
use Rattle.std.specs.List.{list_all}
use Rattle.ir_core.specs.declared.op.SwitchCase.{SwitchCase}
use Rattle.ir_verifier.specs.TypeFaults.{operand_agrees}
use Rattle.ir_verifier.proofs.types.Typing.cases_agree.Given as goal

abbrev pub invariant-loop-case : goal.invariant-loop-case
invariant-loop-case l =
    list_all (operand_agrees l.self) (map (λ (c : SwitchCase). c.value) (drop l.case-index l.cases)) ≡ list_all (operand_agrees l.self) (map (λ (c : SwitchCase). c.value) l.cases)
