use Rattle.std.proofs.Common.{not, ap, ◌∙◌, Bool}
use Rattle.module_rules.specs.First.{earlier, earliest}
use Rattle.module_rules.specs.Faults.{place_if}
use Rattle.ir_verifier.specs.CallFaults.{call_fault}
use Rattle.module_rules.proofs.Folds.{fold_step}
use Rattle.ir_verifier.proofs.calls.in_block.Goals as goal

pub loop-instr-preserved : goal.loop-instr-preserved
loop-instr-preserved c =
    fold_step earlier (call_fault c.args.callees.now) _ _ _ _ _ _ _
    (c.earlier_if-first.ensures ∙ ap (λ (t : Bool). earliest c.loop-instr.first (place_if (not t) c.instr-item.result.place)) c.calls_well.ensures)
    c.as_slice-instr-items.ensures c.loop-instr-test.true c.instr-item.is c.loop-instr.invariant
