use Rattle.std.proofs.Common.{◌≡◌, ◌++◌, drop, not}
use Rattle.std.specs.List.{flat_map}
use Rattle.ir_core.specs.declared.func.Instr.{Instr}
use Rattle.ir_core.specs.Operands.{Step}
use Rattle.module_rules.specs.First.{earliest}
use Rattle.module_rules.specs.Faults.{place_if, block_faults}
use Rattle.ir_verifier.specs.Faults.{op_fits, end_fits, step_fits}
use Rattle.ir_verifier.proofs.constants.in_block.Given as goal

abbrev pub invariant-loop-instr : goal.invariant-loop-instr
invariant-loop-instr l =
    earliest l.first (flat_map (λ (i : Instr). place_if (not (op_fits i.op)) i.place) (drop l.instr-index l.block.code) ++ place_if (not (end_fits l.block.end)) l.block.end_place)
    ≡ earliest l.fn.before (block_faults (λ (s : Step). not (step_fits s)) l.block)
