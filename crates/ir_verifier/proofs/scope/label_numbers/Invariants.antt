use Rattle.std.proofs.Common.{◌≡◌, drop, map}
use Rattle.module_rules.specs.Faults.{with_numbers, numbers_of}
use Rattle.ir_verifier.specs.Faults.{label_number}
use Rattle.ir_verifier.proofs.scope.label_numbers.Given as goal

abbrev pub invariant-loop-block : goal.invariant-loop-block
invariant-loop-block l = with_numbers l.numbers (map label_number (drop l.block-index l.blocks)) ≡ numbers_of (map label_number l.blocks)
