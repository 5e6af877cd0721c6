use Rattle.std.proofs.Common.{ap, ◌∙◌, Bool}
use Rattle.ir_core.specs.declared.func.Instr.{Instr}
use Rattle.module_rules.specs.First.{earlier, earliest}
use Rattle.module_rules.specs.Faults.{place_if}
use Rattle.module_rules.specs.SizeFaults.{op_is_too_large, end_is_too_large}
use Rattle.module_rules.proofs.Folds.{fold_step_before}
use Rattle.module_rules.proofs.sizes.in_block.Goals as goal

pub loop-instr-preserved : goal.loop-instr-preserved
loop-instr-preserved c =
    fold_step_before earlier (place_if (end_is_too_large c.args.m.now.types.defs c.args.small.now c.args.block.now.end) c.args.block.now.end_place) (λ (i : Instr). place_if (op_is_too_large c.args.m.now.types.defs c.args.small.now i.op) i.place)
    _ _ _ _ _ _ _ (c.earlier_if-first.ensures ∙ ap (λ (t : Bool). earliest c.loop-instr.first (place_if t c.instr-item.result.place)) c.op_is_too_large.ensures) c.as_slice-instr-items.ensures c.loop-instr-test.true c.instr-item.is c.loop-instr.invariant
