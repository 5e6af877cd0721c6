use Rattle.std.proofs.Common.{◌≡◌, drop, None, not}
use Rattle.std.specs.List.{flat_map}
use Rattle.ir_core.specs.Operands.{Step}
use Rattle.module_rules.specs.First.{earliest}
use Rattle.module_rules.specs.Faults.{block_faults}
use Rattle.ir_verifier.specs.Faults.{step_is_known, reference_faults}
use Rattle.ir_verifier.proofs.references.first_fault.Given as goal

abbrev pub invariant-loop-block : goal.invariant-loop-block
invariant-loop-block l =
    earliest l.first (flat_map (block_faults (λ (s : Step). not (step_is_known l.scope s))) (drop l.block-index l.f.blocks)) ≡ earliest None (reference_faults l.scope l.f)
