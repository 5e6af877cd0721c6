use Rattle.std.proofs.Common.{◌≡◌, drop}
use Rattle.std.specs.List.{flat_map}
use Rattle.module_rules.specs.Faults.{with_numbers}
use Rattle.ir_verifier.specs.TypeFaults.{result_of, results_of}
use Rattle.ir_verifier.proofs.registers.add_results.Given as goal

abbrev pub invariant-loop-instr : goal.invariant-loop-instr
invariant-loop-instr l = with_numbers l.numbers (flat_map (result_of l.t) (drop l.instr-index l.block.code)) ≡ with_numbers l.fn.numbers (results_of l.t l.block)
