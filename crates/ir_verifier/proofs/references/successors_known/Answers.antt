use Rattle.std.proofs.Common.{◌≡◌, None, Some, slice_get, sym, ◌∙◌}
use Rattle.ir_core.specs.Parts.{targets}
use Rattle.ir_verifier.specs.Faults.{is_label}
use Rattle.ir_verifier.proofs.AllByPosition.{nearer, all_next, all_fails, all_pass}
use Rattle.ir_verifier.proofs.references.successors_known.Goals as goal

pub returns-then-not-is_label : goal.returns-then-not-is_label
returns-then-not-is_label c =
    let here : slice_get (targets c.args.end.now) c.loop-label.at ≡ Some c.in-Some.label = sym c.successor.ensures.value ∙ c.in-Some.is in
    all_fails (is_label c.args.scope.now) (targets c.args.end.now) c.loop-label.at _ c.in-Some.label here (sym c.is_label.ensures ∙ c.if-not-is_label.true) c.loop-label.invariant

pub loop-label-smaller : goal.loop-label-smaller
loop-label-smaller c =
    let here : slice_get (targets c.args.end.now) c.loop-label.at ≡ Some c.in-Some.label = sym c.successor.ensures.value ∙ c.in-Some.is in
    nearer (targets c.args.end.now) c.loop-label.at c.in-Some.label here

pub loop-label-preserved : goal.loop-label-preserved
loop-label-preserved c =
    let here : slice_get (targets c.args.end.now) c.loop-label.at ≡ Some c.in-Some.label = sym c.successor.ensures.value ∙ c.in-Some.is in
    all_next (is_label c.args.scope.now) (targets c.args.end.now) c.loop-label.at _ c.in-Some.label here (sym c.is_label.ensures ∙ c.if-not-is_label.false) c.loop-label.invariant

pub returns : goal.returns
returns c =
    let past : slice_get (targets c.args.end.now) c.loop-label.at ≡ None = sym c.successor.ensures.value ∙ c.in_default.is in
    all_pass (is_label c.args.scope.now) (targets c.args.end.now) c.loop-label.at _ past c.loop-label.invariant
