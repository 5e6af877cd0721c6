use Rattle.std.proofs.Common.{List, true, false, sym, ap, ◌∙◌, length, subst, arith, get_or}
use Rattle.oi_base.specs.declared.ids.SiteId.{SiteId}
use Rattle.component_split.specs.Graph.{inside}
use Rattle.component_split.specs.Over.{func_numbers, site_graph, IsCandidateNumber}
use Rattle.component_split.proofs.Known.{listed}
use Rattle.component_split.proofs.Sites.{filter_site}
use Rattle.component_split.proofs.sets.sites_inside.Goals as goal
use Rattle.component_split.proofs.sets.sites_inside.Goals.{then-is_inside+in_ok-push, else-is_inside}

pub is_inside-requires-clause-candidate : goal.is_inside-requires-clause-candidate
is_inside-requires-clause-candidate c =
    let same = c.candidates-site-items.ensures.value in
    let d : SiteId = record { 0 = 0 } in
    let l = c.loop-site-test.true in
    let n = ap length same in
    subst (λ (xs : List SiteId). IsCandidateNumber c.args.g.now (get_or xs c.loop-site.site-index d).0) (sym same) (listed c.args.g.now c.loop-site.site-index d (omega (arith, l, n)))

pub loop-site-preserved : goal.loop-site-preserved
loop-site-preserved c =
    let P = inside (site_graph c.args.g.now) (func_numbers c.args.funcs.now) in
    let xs = c.candidates-site-items.result.now in
    let d : SiteId = record { 0 = 0 } in
    let k = c.loop-site.site-index in
    elim c.if-is_inside.branch [
      | then-is_inside+in_ok-push w ↦ filter_site P xs k d c.loop-site.sites.items c.if-is_inside.sites.items c.loop-site-test.true c.loop-site.invariant true (sym c.is_inside.ensures ∙ w.if-is_inside.true) (ap (λ v. v.items) w.sites-is ∙ w.in_ok-push.ensures.items)
      | else-is_inside w ↦ filter_site P xs k d c.loop-site.sites.items c.if-is_inside.sites.items c.loop-site-test.true c.loop-site.invariant false (sym c.is_inside.ensures ∙ w.if-is_inside.false) (ap (λ v. v.items) w.sites-is)
    ]
