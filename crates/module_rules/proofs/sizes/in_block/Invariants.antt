use Rattle.std.proofs.Common.{◌≡◌, ◌++◌, drop}
use Rattle.std.specs.List.{flat_map}
use Rattle.ir_core.specs.declared.func.Instr.{Instr}
use Rattle.module_rules.specs.First.{earliest}
use Rattle.module_rules.specs.Faults.{place_if, block_faults}
use Rattle.module_rules.specs.SizeFaults.{op_is_too_large, end_is_too_large, step_is_too_large}
use Rattle.module_rules.proofs.sizes.in_block.Given as goal

abbrev pub invariant-loop-instr : goal.invariant-loop-instr
invariant-loop-instr l =
    earliest l.first (flat_map (λ (i : Instr). place_if (op_is_too_large l.m.types.defs l.small i.op) i.place) (drop l.instr-index l.block.code) ++ place_if (end_is_too_large l.m.types.defs l.small l.block.end) l.block.end_place)
    ≡ earliest l.fn.before (block_faults (step_is_too_large l.m.types.defs l.small) l.block)
