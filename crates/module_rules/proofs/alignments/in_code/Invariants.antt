use Rattle.std.proofs.Common.{◌≡◌, drop, not}
use Rattle.std.specs.List.{flat_map}
use Rattle.ir_core.specs.declared.func.Instr.{Instr}
use Rattle.module_rules.specs.First.{earliest}
use Rattle.module_rules.specs.Faults.{place_if}
use Rattle.module_rules.specs.AlignFaults.{promises_well}
use Rattle.module_rules.proofs.alignments.in_code.Given as goal

abbrev pub invariant-loop-instr : goal.invariant-loop-instr
invariant-loop-instr l =
    earliest l.first (flat_map (λ (i : Instr). place_if (not (promises_well l.m.types.defs i.op)) i.place) (drop l.instr-index l.block.code))
    ≡ earliest l.fn.before (flat_map (λ (i : Instr). place_if (not (promises_well l.m.types.defs i.op)) i.place) l.block.code)
