use Rattle.module_rules.specs.First.{earlier}
use Rattle.ir_verifier.specs.PhiFaults.{block_phi_faults}
use Rattle.module_rules.proofs.Folds.{fold_step}
use Rattle.ir_verifier.proofs.phis.first_fault.Goals as goal

pub loop-block-preserved : goal.loop-block-preserved
loop-block-preserved c =
    fold_step earlier (block_phi_faults c.args.m.now.types.defs c.args.predecessors.now) _ _ _ _ _ _ _ c.in_ok-first.ensures c.as_slice-block-items.ensures c.loop-block-test.true c.block-item.is c.loop-block.invariant
