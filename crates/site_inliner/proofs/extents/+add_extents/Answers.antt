use Rattle.std.proofs.Common.{suc, ◌<◌, rules, sym, ap, ◌∙◌, arith}
use Rattle.std.specs.declared.rc.Rc.{Rc}
use Rattle.std.specs.declared.alloc.Global.{Global}
use Rattle.oi_base.specs.declared.ids.SiteId.{SiteId}
use Rattle.shapes.specs.Tree.{Tree, Callees, nodes, nodes_of_callees}
use Rattle.shapes.proofs.Renewals.{smaller, size_is}
use Rattle.site_inliner.proofs.ExtentLaws.{all_added}
use Rattle.site_inliner.proofs.extents.+add_extents.Goals as goal

pub add_extents-requires : goal.add_extents-requires
add_extents-requires t c =
    let item = smaller c.inlined-inlined.result.now c.loop-entry.entry-index c.entry-item.result c.loop-entry-test.true in
    let same = ap nodes (c.deref-callee.ensures ∙ ap (λ (k : SiteId × Rc Tree Global). k.1.value) c.entry-item.is) in
    let whole = size_is c.args.shape.now ∙ ap (λ (ks : Callees). suc (nodes_of_callees ks)) (sym c.inlined-inlined.ensures) in
    let less : nodes c.deref-callee.result.now < nodes c.args.shape.now = omega (arith, item, same, whole) in
    search (rules, less)

pub returns-clause-added : goal.returns-clause-added
returns-clause-added t c = all_added c.args.m.now c.args.shape.now c.args.all.now.items c.loop-entry.all.items c.loop-entry.total c.len-at.result c.inlined-inlined.result.now c.loop-entry.entry-index c.inlined-inlined.ensures c.loop-entry-test.false (c.len-at.ensures ∙ c.args.all.now.ok.0) c.loop-entry.invariant
