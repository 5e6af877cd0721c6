use Rattle.std.proofs.Common.{◌≡◌, map, drop}
use Rattle.ir_core.specs.declared.op.SwitchCase.{SwitchCase}
use Rattle.ir_core.specs.ValidTypes.{value_uses, types_in_values}
use Rattle.module_rules.specs.TypeFaults.{state, with_uses}
use Rattle.module_rules.proofs.type_uses.add_cases.Given as goal

abbrev pub invariant-loop-case : goal.invariant-loop-case
invariant-loop-case l =
    with_uses (state l.to) (value_uses l.place (types_in_values (map (λ (c : SwitchCase). c.value.value) (drop l.case-index l.cases))))
    ≡ with_uses (state l.fn.to) (value_uses l.place (types_in_values (map (λ (c : SwitchCase). c.value.value) l.cases)))
