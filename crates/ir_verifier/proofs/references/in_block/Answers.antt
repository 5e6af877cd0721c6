use Rattle.std.proofs.Common.{not, ap, ◌∙◌, Bool}
use Rattle.ir_core.specs.declared.func.Instr.{Instr}
use Rattle.module_rules.specs.First.{earlier, earliest}
use Rattle.module_rules.specs.Faults.{place_if}
use Rattle.ir_verifier.specs.Faults.{op_is_known, end_is_known}
use Rattle.module_rules.proofs.Folds.{fold_step_before}
use Rattle.ir_verifier.proofs.references.in_block.Goals as goal

pub loop-instr-preserved : goal.loop-instr-preserved
loop-instr-preserved c =
    fold_step_before earlier (place_if (not (end_is_known c.args.scope.now c.args.block.now.end)) c.args.block.now.end_place) (λ (i : Instr). place_if (not (op_is_known c.args.scope.now i.op)) i.place)
    _ _ _ _ _ _ _ (c.earlier_if-first.ensures ∙ ap (λ (t : Bool). earliest c.loop-instr.first (place_if (not t) c.instr-item.result.place)) c.op_is_known.ensures) c.as_slice-instr-items.ensures c.loop-instr-test.true c.instr-item.is c.loop-instr.invariant
