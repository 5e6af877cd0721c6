use Rattle.std.proofs.Common.{◌≡◌, None, Some, slice_get, sym, ◌∙◌, ap}
use Rattle.std.specs.Option.{option_map}
use Rattle.ir_core.specs.Operands.{op_operands, seen}
use Rattle.ir_verifier.specs.Faults.{operand_fits}
use Rattle.ir_verifier.proofs.AllByPosition.{nearer, all_next, all_fails, all_pass}
use Rattle.ir_verifier.proofs.constants.op_operands_fit.Goals as goal

pub returns-then-not-value_fits : goal.returns-then-not-value_fits
returns-then-not-value_fits c =
    let here : slice_get (op_operands c.args.op.now) c.loop-operand.at ≡ Some (seen c.in-Some.operand) = sym c.typed_operand.ensures.value ∙ ap (option_map seen) c.in-Some.is in
    all_fails operand_fits (op_operands c.args.op.now) c.loop-operand.at _ (seen c.in-Some.operand) here (sym c.value_fits.ensures ∙ c.if-not-value_fits.true) c.loop-operand.invariant

pub loop-operand-smaller : goal.loop-operand-smaller
loop-operand-smaller c =
    let here : slice_get (op_operands c.args.op.now) c.loop-operand.at ≡ Some (seen c.in-Some.operand) = sym c.typed_operand.ensures.value ∙ ap (option_map seen) c.in-Some.is in
    nearer (op_operands c.args.op.now) c.loop-operand.at (seen c.in-Some.operand) here

pub loop-operand-preserved : goal.loop-operand-preserved
loop-operand-preserved c =
    let here : slice_get (op_operands c.args.op.now) c.loop-operand.at ≡ Some (seen c.in-Some.operand) = sym c.typed_operand.ensures.value ∙ ap (option_map seen) c.in-Some.is in
    all_next operand_fits (op_operands c.args.op.now) c.loop-operand.at _ (seen c.in-Some.operand) here (sym c.value_fits.ensures ∙ c.if-not-value_fits.false) c.loop-operand.invariant

pub returns : goal.returns
returns c =
    let past : slice_get (op_operands c.args.op.now) c.loop-operand.at ≡ None = sym c.typed_operand.ensures.value ∙ ap (option_map seen) c.in_default.is in
    all_pass operand_fits (op_operands c.args.op.now) c.loop-operand.at _ past c.loop-operand.invariant
