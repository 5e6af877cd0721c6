use Rattle.std.proofs.Common.{◌≡◌, drop}
use Rattle.std.specs.List.{flat_map}
use Rattle.module_rules.specs.First.{earliest}
use Rattle.ir_verifier.specs.PhiFaults.{row_at, phi_fault, block_phi_faults}
use Rattle.ir_verifier.proofs.phis.in_block.Given as goal

abbrev pub invariant-loop-instr : goal.invariant-loop-instr
invariant-loop-instr l =
    earliest l.first (flat_map (phi_fault l.m.types.defs (row_at l.predecessors l.block.label)) (drop l.instr-index l.block.code))
    ≡ earliest l.fn.before (block_phi_faults l.m.types.defs l.predecessors l.block)
