use Rattle.std.proofs.Common.{ap, ◌∙◌, arith}
use Rattle.std.proofs.lemmas.List.{drop_more, drop_all}
use Rattle.shapes.specs.Tree.{Tree, weight, func}
use Rattle.shapes.specs.Weight.{call_weight, full_weight}
use Rattle.shapes.proofs.Weighed.{kept_weight, one_more}
use Rattle.shapes.proofs.shape.weight_of_inlined.Goals as goal

pub loop-entry-init : goal.loop-entry-init
loop-entry-init c = (omega arith, c.requires)

pub loop-entry-preserved : goal.loop-entry-preserved
loop-entry-preserved c =
    let step = drop_more c.args.inlined.now c.loop-entry.entry-index c.entry-item.result (omega arith) in
    let inv = rw (step, ← c.entry-item.is) at c.loop-entry.invariant in
    let m = c.args.m.now in
    let t = c.entry-item.result.1.value in
    let kid = c.weight.ensures ∙ ap (λ (t : Tree). weight t) c.deref-shape.ensures ∙ kept_weight m t inv.1.0 in
    let is = c.func.ensures ∙ ap (λ (t : Tree). func t) c.deref-shape.ensures in
    let call = rw is at c.call_weight.ensures in
    (one_more c.loop-entry.total (call_weight m (func t)) c.weight.result (full_weight m t) _ _ c.saturating_add.result c.saturating_add-total.result inv.0 kid (rw call at c.saturating_add.ensures) c.saturating_add-total.ensures, inv.1.1)

pub returns : goal.returns
returns c =
    let end = drop_all c.loop-entry.entry-index c.args.inlined.now c.loop-entry-test.false in
    let inv = rw end at c.loop-entry.invariant in
    omega (arith, inv.0)
