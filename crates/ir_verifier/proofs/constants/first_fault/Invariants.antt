use Rattle.std.proofs.Common.{◌≡◌, None, drop, not}
use Rattle.std.specs.List.{flat_map}
use Rattle.ir_core.specs.Operands.{Step}
use Rattle.module_rules.specs.First.{earliest}
use Rattle.module_rules.specs.Faults.{block_faults}
use Rattle.ir_verifier.specs.Faults.{step_fits, constant_faults}
use Rattle.ir_verifier.proofs.constants.first_fault.Given as goal

abbrev pub invariant-loop-block : goal.invariant-loop-block
invariant-loop-block l = earliest l.first (flat_map (block_faults (λ (s : Step). not (step_fits s))) (drop l.block-index l.f.blocks)) ≡ earliest None (constant_faults l.f)
