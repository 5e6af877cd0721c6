use Rattle.std.proofs.Common.{not}
use Rattle.ir_core.specs.Operands.{Step}
use Rattle.module_rules.specs.Faults.{block_faults}
use Rattle.ir_verifier.specs.Faults.{step_fits}
use Rattle.module_rules.specs.First.{earlier}
use Rattle.module_rules.proofs.Folds.{fold_step}
use Rattle.ir_verifier.proofs.constants.first_fault.Goals as goal

-- src/constants.rt:28:5
pub loop-block-preserved : goal.loop-block-preserved
loop-block-preserved c = fold_step earlier (block_faults (λ (s : Step). not (step_fits s))) _ _ _ _ _ _ _ c.in_block-first.ensures c.as_slice-block-items.ensures c.loop-block-test.true c.block-item.is c.loop-block.invariant
