use Rattle.std.proofs.Common.{◌+◌, drop, sym, ap, ◌∙◌, arith}
use Rattle.std.proofs.lemmas.List.{drop_more, drop_all}
use Rattle.shapes.specs.Tree.{Tree, Callees, more, callees}
use Rattle.shapes.specs.Renewed.{all_newest}
use Rattle.shapes.proofs.Renewals.{followed, followed_more, followed_all}
use Rattle.shapes.proofs.renewal.newest_callees.Goals as goal

pub loop-entry-preserved : goal.loop-entry-preserved
loop-entry-preserved c =
    let step = drop_more c.args.inlined.now c.loop-entry.entry-index c.entry-item.result (omega arith) in
    let inv = rw (step, ← c.entry-item.is) at c.loop-entry.invariant in
    let so_far = c.loop-entry.all.items in
    let rest : Callees = all_newest c.args.renewals.now (callees (drop (c.loop-entry.entry-index + 1) c.args.inlined.now)) in
    (rw c.in_ok-push.ensures.items (followed_more so_far (c.entry-item.result.0, c.in_ok-newest.field-0) rest ∙ ap (λ (t : Tree). followed so_far (more c.entry-item.result.0 t rest)) c.in_ok-newest.ensures ∙ inv.0), inv.1.1)

pub returns : goal.returns
returns c =
    let end = drop_all c.loop-entry.entry-index c.args.inlined.now c.loop-entry-test.false in
    let inv = rw end at c.loop-entry.invariant in
    sym (followed_all c.loop-entry.all.items) ∙ inv.0
