use Rattle.std.proofs.Common.{◌≡◌, drop}
use Rattle.std.specs.List.{flat_map}
use Rattle.module_rules.specs.Faults.{with_numbers}
use Rattle.ir_verifier.specs.Faults.{block_results, value_numbers}
use Rattle.ir_verifier.proofs.scope.value_numbers.Given as goal

abbrev pub invariant-loop-block : goal.invariant-loop-block
invariant-loop-block l = with_numbers l.numbers (flat_map block_results (drop l.block-index l.f.blocks)) ≡ value_numbers l.f
