use Rattle.std.proofs.Common.{◌≡◌, drop}
use Rattle.std.specs.List.{flat_map}
use Rattle.module_rules.specs.Faults.{with_numbers}
use Rattle.ir_verifier.specs.Faults.{result_number, block_results}
use Rattle.ir_verifier.proofs.scope.add_results.Given as goal

abbrev pub invariant-loop-instr : goal.invariant-loop-instr
invariant-loop-instr l = with_numbers l.numbers (flat_map result_number (drop l.instr-index l.block.code)) ≡ with_numbers l.fn.numbers (block_results l.block)
