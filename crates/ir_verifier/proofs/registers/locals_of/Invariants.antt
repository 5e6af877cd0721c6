use Rattle.std.proofs.Common.{◌≡◌, drop}
use Rattle.std.specs.List.{flat_map}
use Rattle.module_rules.specs.Faults.{with_numbers}
use Rattle.ir_verifier.specs.TypeFaults.{results_of, locals_of}
use Rattle.ir_verifier.proofs.registers.locals_of.Given as goal

abbrev pub invariant-loop-block : goal.invariant-loop-block
invariant-loop-block l = with_numbers l.numbers (flat_map (results_of l.t) (drop l.block-index l.f.blocks)) ≡ locals_of l.t l.f
