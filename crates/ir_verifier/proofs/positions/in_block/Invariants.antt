use Rattle.std.proofs.Common.{◌≡◌, drop}
use Rattle.module_rules.specs.First.{earliest}
use Rattle.ir_verifier.specs.Faults.{code_faults, position_fault}
use Rattle.ir_verifier.proofs.positions.in_block.Given as goal

abbrev pub invariant-loop-instr : goal.invariant-loop-instr
invariant-loop-instr l = earliest l.first (code_faults l.is_entry l.late (drop l.instr-index l.block.code)) ≡ earliest l.fn.before (position_fault l.is_entry l.block)
