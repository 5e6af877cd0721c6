use Rattle.std.proofs.Common.{◌≡◌, drop}
use Rattle.std.specs.List.{flat_map}
use Rattle.module_rules.specs.First.{earliest}
use Rattle.ir_verifier.specs.CallFaults.{call_fault, block_call_faults}
use Rattle.ir_verifier.proofs.calls.in_block.Given as goal

abbrev pub invariant-loop-instr : goal.invariant-loop-instr
invariant-loop-instr l = earliest l.first (flat_map (call_fault l.callees) (drop l.instr-index l.block.code)) ≡ earliest l.fn.before (block_call_faults l.callees l.block)
