use Rattle.std.proofs.Common.{◌≡◌, None, Some, slice_get, sym, ◌∙◌}
use Rattle.ir_core.specs.Parts.{op_labels}
use Rattle.ir_verifier.specs.Faults.{is_label}
use Rattle.ir_verifier.proofs.AllByPosition.{nearer, all_next, all_fails, all_pass}
use Rattle.ir_verifier.proofs.references.op_labels_known.Goals as goal

pub returns-then-not-is_label : goal.returns-then-not-is_label
returns-then-not-is_label c =
    let here : slice_get (op_labels c.args.op.now) c.loop-label.at ≡ Some c.in-Some.label = sym c.label.ensures.value ∙ c.in-Some.is in
    all_fails (is_label c.args.scope.now) (op_labels c.args.op.now) c.loop-label.at _ c.in-Some.label here (sym c.is_label.ensures ∙ c.if-not-is_label.true) c.loop-label.invariant

pub loop-label-smaller : goal.loop-label-smaller
loop-label-smaller c =
    let here : slice_get (op_labels c.args.op.now) c.loop-label.at ≡ Some c.in-Some.label = sym c.label.ensures.value ∙ c.in-Some.is in
    nearer (op_labels c.args.op.now) c.loop-label.at c.in-Some.label here

pub loop-label-preserved : goal.loop-label-preserved
loop-label-preserved c =
    let here : slice_get (op_labels c.args.op.now) c.loop-label.at ≡ Some c.in-Some.label = sym c.label.ensures.value ∙ c.in-Some.is in
    all_next (is_label c.args.scope.now) (op_labels c.args.op.now) c.loop-label.at _ c.in-Some.label here (sym c.is_label.ensures ∙ c.if-not-is_label.false) c.loop-label.invariant

pub returns : goal.returns
returns c =
    let past : slice_get (op_labels c.args.op.now) c.loop-label.at ≡ None = sym c.label.ensures.value ∙ c.in_default.is in
    all_pass (is_label c.args.scope.now) (op_labels c.args.op.now) c.loop-label.at _ past c.loop-label.invariant
