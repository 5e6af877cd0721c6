use Rattle.std.proofs.Common.{◌≡◌, None, Some, slice_get, sym, ◌∙◌, ap}
use Rattle.std.specs.Option.{option_map}
use Rattle.ir_core.specs.Operands.{end_operands, seen}
use Rattle.ir_verifier.specs.Faults.{is_known}
use Rattle.ir_verifier.proofs.AllByPosition.{nearer, all_next, all_fails, all_pass}
use Rattle.ir_verifier.proofs.references.end_values_known.Goals as goal

pub returns-then-not-is_known_value : goal.returns-then-not-is_known_value
returns-then-not-is_known_value c =
    let here : slice_get (end_operands c.args.end.now) c.loop-operand.at ≡ Some (seen c.in-Some.operand) = sym c.typed_operand.ensures.value ∙ ap (option_map seen) c.in-Some.is in
    all_fails (is_known c.args.scope.now) (end_operands c.args.end.now) c.loop-operand.at _ (seen c.in-Some.operand) here (sym c.is_known_value.ensures ∙ c.if-not-is_known_value.true) c.loop-operand.invariant

pub loop-operand-smaller : goal.loop-operand-smaller
loop-operand-smaller c =
    let here : slice_get (end_operands c.args.end.now) c.loop-operand.at ≡ Some (seen c.in-Some.operand) = sym c.typed_operand.ensures.value ∙ ap (option_map seen) c.in-Some.is in
    nearer (end_operands c.args.end.now) c.loop-operand.at (seen c.in-Some.operand) here

pub loop-operand-preserved : goal.loop-operand-preserved
loop-operand-preserved c =
    let here : slice_get (end_operands c.args.end.now) c.loop-operand.at ≡ Some (seen c.in-Some.operand) = sym c.typed_operand.ensures.value ∙ ap (option_map seen) c.in-Some.is in
    all_next (is_known c.args.scope.now) (end_operands c.args.end.now) c.loop-operand.at _ (seen c.in-Some.operand) here (sym c.is_known_value.ensures ∙ c.if-not-is_known_value.false) c.loop-operand.invariant

pub returns : goal.returns
returns c =
    let past : slice_get (end_operands c.args.end.now) c.loop-operand.at ≡ None = sym c.typed_operand.ensures.value ∙ ap (option_map seen) c.in_default.is in
    all_pass (is_known c.args.scope.now) (end_operands c.args.end.now) c.loop-operand.at _ past c.loop-operand.invariant
