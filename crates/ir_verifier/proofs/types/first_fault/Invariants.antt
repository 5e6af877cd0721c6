use Rattle.std.proofs.Common.{◌≡◌, None, drop, not}
use Rattle.std.specs.List.{flat_map}
use Rattle.ir_core.specs.Operands.{Step}
use Rattle.module_rules.specs.First.{earliest}
use Rattle.module_rules.specs.Faults.{block_faults}
use Rattle.ir_verifier.specs.TypeFaults.{step_agrees, type_faults}
use Rattle.ir_verifier.proofs.types.first_fault.Given as goal

abbrev pub invariant-loop-block : goal.invariant-loop-block
invariant-loop-block l =
    earliest l.first (flat_map (block_faults (λ (s : Step). not (step_agrees l.typing l.f.result s))) (drop l.block-index l.f.blocks)) ≡ earliest None (type_faults l.typing l.f)
