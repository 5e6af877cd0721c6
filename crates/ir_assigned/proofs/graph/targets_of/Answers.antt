use Rattle.std.proofs.Common.{◌≡◌, ◌∷◌, ◌++◌, [], None, Some, slice_get, sym, ap, ◌∙◌, refl}
use Rattle.ir_core.specs.Parts.{targets}
use Rattle.ir_core.proofs.ByPosition.{take_next, take_all}
use Rattle.ir_assigned.proofs.ByPosition.{nearer}
use Rattle.ir_assigned.proofs.graph.targets_of.Goals as goal

pub loop-label-preserved : goal.loop-label-preserved
loop-label-preserved c =
    let here : slice_get (targets c.args.end.now) c.loop-label.at ≡ Some c.in-Some.label = sym c.successor.ensures.value ∙ c.in-Some.is in
    c.in_ok-push.ensures.items ∙ ap (λ xs. xs ++ c.in-Some.label ∷ []) c.loop-label.invariant ∙ sym (take_next (targets c.args.end.now) c.loop-label.at _ c.in-Some.label refl here)

pub loop-label-smaller : goal.loop-label-smaller
loop-label-smaller c =
    let here : slice_get (targets c.args.end.now) c.loop-label.at ≡ Some c.in-Some.label = sym c.successor.ensures.value ∙ c.in-Some.is in
    nearer (targets c.args.end.now) c.loop-label.at c.in-Some.label here

pub returns : goal.returns
returns c =
    let past : slice_get (targets c.args.end.now) c.loop-label.at ≡ None = sym c.successor.ensures.value ∙ c.in_default.is in
    c.loop-label.invariant ∙ take_all (targets c.args.end.now) c.loop-label.at past
