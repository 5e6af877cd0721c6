use Rattle.std.proofs.Common.{◌≡◌, drop}
use Rattle.std.specs.List.{flat_map}
use Rattle.ir_core.specs.ValidFunc.{instr_local, block_locals_at}
use Rattle.ir_verifier.specs.Faults.{with_locals}
use Rattle.ir_verifier.proofs.names.add_block.Given as goal

abbrev pub invariant-loop-instr : goal.invariant-loop-instr
invariant-loop-instr l = with_locals l.to (flat_map instr_local (drop l.instr-index l.block.code)) ≡ with_locals l.fn.to (block_locals_at l.block)
