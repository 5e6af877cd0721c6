use Rattle.std.proofs.Common.{◌≡◌, ◌<◌, List, [], map, take, replicate, length, get_or, refl, sym, ap, ◌∙◌, arith}
use Rattle.std.specs.List.{filter}
use Rattle.std.proofs.lemmas.List.{length-replicate}
use Rattle.oi_base.specs.declared.ids.SiteId.{SiteId}
use Rattle.component_split.specs.Members.{joined_by, put_at}
use Rattle.component_split.specs.Over.{func_numbers, site_numbers, site_graph}
use Rattle.component_split.proofs.FuncSearch.{map_length}
use Rattle.component_split.proofs.Dealing.{map_put, map_empty, none_dealt, deal_site, skip_site, length_put, none_of, site_in, take_whole}
use Rattle.component_split.proofs.parts.deal_sites.Goals as goal
use Rattle.component_split.proofs.parts.deal_sites.Goals.{in-Some+in_ok-put, in_default}

pub loop-site-init : goal.loop-site-init
loop-site-init c =
    let n = map_length c.args.heads.now in
    record {
      count = ap length c.in_ok-lists.ensures ∙ length-replicate (length c.args.heads.now) [];
      dealt = λ low h. ap (λ (yss : List (List SiteId)). map site_numbers yss) c.in_ok-lists.ensures ∙ map_empty (λ (s : SiteId). s.0) (length c.args.heads.now) ∙ ap (λ k. replicate k []) (sym n) ∙ none_dealt (λ r. filter (joined_by low (site_graph c.args.g.now) r) (site_numbers (take 0 c.args.sites.now))) (func_numbers c.args.heads.now) (λ r. refl);
    }

pub component_of-requires-clause-candidate : goal.component_of-requires-clause-candidate
component_of-requires-clause-candidate c = (site_in c.args.g.now (func_numbers c.args.funcs.now) c.args.sites.now c.loop-site.site-index (record { 0 = 0 }) c.requires.inside c.loop-site-test.true).0

pub component_of-requires-clause-inside : goal.component_of-requires-clause-inside
component_of-requires-clause-inside c = (site_in c.args.g.now (func_numbers c.args.funcs.now) c.args.sites.now c.loop-site.site-index (record { 0 = 0 }) c.requires.inside c.loop-site-test.true).1

pub loop-site-preserved : goal.loop-site-preserved
loop-site-preserved c =
    let g = site_graph c.args.g.now in
    let ss = c.args.sites.now in
    let i = c.loop-site.site-index in
    let d : SiteId = record { 0 = 0 } in
    let rs = func_numbers c.args.heads.now in
    let n = map_length c.args.heads.now in
    elim c.match-component_of.branch [
      | in-Some+in_ok-put w ↦
          let k = w.place_in.result in
          let z = w.place_in.ensures.in_range in
          let z2 : k < length rs = omega (arith, n, z) in
          record {
            count = ap (λ v. length v.items) w.lists-is ∙ ap length w.in_ok-put.ensures ∙ length_put k (get_or ss i d) c.loop-site.lists.items ∙ c.loop-site.invariant.count;
            dealt = λ low h.
                ap (λ v. map site_numbers v.items) w.lists-is ∙ ap (λ (yss : List (List SiteId)). map site_numbers yss) w.in_ok-put.ensures ∙ map_put (λ (s : SiteId). s.0) k (get_or ss i d) c.loop-site.lists.items ∙ ap (put_at k (get_or ss i d).0) (c.loop-site.invariant.dealt low h)
                ∙ deal_site low g ss i d rs k w.in-Some.head c.loop-site-test.true c.requires.heads_rise z2 w.place_in.ensures.here (w.in-Some.ensures.component low h);
          }
      | in_default w ↦ record {
        count = ap (λ v. length v.items) w.lists-is ∙ c.loop-site.invariant.count;
        dealt = λ low h. ap (λ v. map site_numbers v.items) w.lists-is ∙ c.loop-site.invariant.dealt low h ∙ skip_site low g ss i d rs c.loop-site-test.true (none_of low g (get_or ss i d).0 c.component_of.result (λ r e. w.in_default.not-Some r e) (c.component_of.ensures.component low h));
      }
    ]

pub returns : goal.returns
returns c =
    let i = c.loop-site.site-index in
    let a = c.loop-site-test.false in let b = c.loop-site.auto.site-index-end in
    let e : i ≡ length c.args.sites.now = omega (arith, a, b) in
    λ low h. c.loop-site.invariant.dealt low h ∙ ap (λ (ss : List SiteId). map (λ r. filter (joined_by low (site_graph c.args.g.now) r) (site_numbers ss)) (func_numbers c.args.heads.now)) (ap (λ k. take k c.args.sites.now) e ∙ take_whole c.args.sites.now)
