use Rattle.std.proofs.Common.{◌≡◌, drop}
use Rattle.ir_core.specs.Parts.{values_of}
use Rattle.ir_core.specs.ValidTypes.{value_uses, types_in_values}
use Rattle.module_rules.specs.TypeFaults.{state, with_uses}
use Rattle.module_rules.proofs.type_uses.add_operands.Given as goal

abbrev pub invariant-loop-operand : goal.invariant-loop-operand
invariant-loop-operand l =
    with_uses (state l.to) (value_uses l.place (types_in_values (values_of (drop l.operand-index l.operands))))
    ≡ with_uses (state l.fn.to) (value_uses l.place (types_in_values (values_of l.operands)))
