use Rattle.std.proofs.Common.{◌≡◌, drop}
use Rattle.std.specs.List.{flat_map}
use Rattle.ir_core.specs.declared.func.Instr.{Instr}
use Rattle.ir_core.specs.Operands.{Does}
use Rattle.ir_core.specs.ValidTypes.{step_uses}
use Rattle.module_rules.specs.TypeFaults.{state, with_uses}
use Rattle.module_rules.proofs.type_uses.add_code.Given as goal

abbrev pub invariant-loop-instr : goal.invariant-loop-instr
invariant-loop-instr l =
    with_uses (state l.to) (flat_map (λ (i : Instr). step_uses (Does i)) (drop l.instr-index l.block.code))
    ≡ with_uses (state l.fn.to) (flat_map (λ (i : Instr). step_uses (Does i)) l.block.code)
