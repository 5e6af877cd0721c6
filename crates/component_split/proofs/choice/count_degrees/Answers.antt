use Rattle.std.proofs.Common.{◌≡◌, ◌<◌, ◌^◌, ℕ, List, true, false, length, take, get_or, sym, ap, subst, ◌∙◌, arith}
use Rattle.std.specs.Prelude.{slice_index}
use Rattle.std.proofs.lemmas.List.{length-map}
use Rattle.component_split.specs.Graph.{is_open}
use Rattle.component_split.specs.Chosen.{open_of, AreDegrees}
use Rattle.component_split.specs.Over.{site_graph, labels, site_numbers}
use Rattle.component_split.proofs.Lists.{filter_short}
use Rattle.component_split.proofs.Choosing.{site_at, open_of_set, degree_at, counted, take_all, take_short}
use Rattle.component_split.proofs.choice.count_degrees.Goals as goal
use Rattle.component_split.proofs.choice.count_degrees.Goals.{then-is_open, else-is_open}

pub is_open-requires : goal.is_open-requires
is_open-requires c =
    let inner : site_numbers c.deref-site-items.result.now ≡ c.args.s.now.1 = ap site_numbers c.deref-site-items.ensures.value ∙ ap (λ (v : List ℕ × List ℕ). v.1) c.s.view_is in
    let at = site_at c.args.g.now c.args.s.now c.requires.set c.deref-site-items.result.now inner c.loop-site.site-index (record { 0 = 0 }) c.loop-site-test.true in
    c.requires.map (get_or c.deref-site-items.result.now c.loop-site.site-index (record { 0 = 0 })) at.candidate at.inside_it

pub count_site-requires : goal.count_site-requires
count_site-requires c =
    let inner : site_numbers c.deref-site-items.result.now ≡ c.args.s.now.1 = ap site_numbers c.deref-site-items.ensures.value ∙ ap (λ (v : List ℕ × List ℕ). v.1) c.s.view_is in
    let at = site_at c.args.g.now c.args.s.now c.requires.set c.deref-site-items.result.now inner c.loop-site.site-index (record { 0 = 0 }) c.loop-site-test.true in
    let inside_sites : site_numbers c.s.inside.sites.items ≡ c.args.s.now.1 = ap (λ (v : List ℕ × List ℕ). v.1) c.s.view_is in
    let m : length (site_numbers c.s.inside.sites.items) ≡ length c.s.inside.sites.items = simp length-map in
    let n = ap length inside_sites in
    let o = c.s.inside.sites.ok.0 in let o2 = c.s.inside.sites.ok.1 in let k = c.s.inside.sites.small in
    let few : length c.args.s.now.1 < 2 ^ 63 = omega (arith, m, n, o, o2, k) in
    let us = open_of (labels c.args.p.now) (take c.loop-site.site-index c.args.s.now.1) in
    let f = filter_short (λ q. is_open (labels c.args.p.now q)) (take c.loop-site.site-index c.args.s.now.1) in
    let t = take_short c.loop-site.site-index c.args.s.now.1 in
    counted c.args.g.now c.args.s.now c.loop-site.site-index (get_or c.deref-site-items.result.now c.loop-site.site-index (record { 0 = 0 })) us c.loop-site.degrees.items c.requires.set at (c.loop-site.invariant.room ∙ c.requires.room) c.loop-site.invariant.degrees (omega (arith, f, t, few))

pub loop-site-preserved : goal.loop-site-preserved
loop-site-preserved c =
    let inner : site_numbers c.deref-site-items.result.now ≡ c.args.s.now.1 = ap site_numbers c.deref-site-items.ensures.value ∙ ap (λ (v : List ℕ × List ℕ). v.1) c.s.view_is in
    let at = site_at c.args.g.now c.args.s.now c.requires.set c.deref-site-items.result.now inner c.loop-site.site-index (record { 0 = 0 }) c.loop-site-test.true in
    let x = get_or c.deref-site-items.result.now c.loop-site.site-index (record { 0 = 0 }) in
    let p = labels c.args.p.now in
    elim c.if-is_open.branch [
      | then-is_open w ↦ record {
        degrees = degree_at c.args.g.now p c.args.s.now c.loop-site.site-index x c.loop-site.degrees.items c.if-is_open.degrees.items true at (sym c.is_open.ensures ∙ w.if-is_open.true) c.loop-site.invariant.degrees (λ f. ap (λ v. slice_index v.items f) w.degrees-is ∙ w.count_site.ensures.degrees f);
        room = ap (λ v. length v.items) w.degrees-is ∙ w.count_site.ensures.room ∙ c.loop-site.invariant.room;
      }
      | else-is_open w ↦ record {
        degrees = degree_at c.args.g.now p c.args.s.now c.loop-site.site-index x c.loop-site.degrees.items c.if-is_open.degrees.items false at (sym c.is_open.ensures ∙ w.if-is_open.false) c.loop-site.invariant.degrees (λ f. let e = ap (λ v. slice_index v.items f) w.degrees-is in omega (arith, e));
        room = ap (λ v. length v.items) w.degrees-is ∙ c.loop-site.invariant.room;
      }
    ]

pub returns-clause-degrees : goal.returns-clause-degrees
returns-clause-degrees c =
    let inner : site_numbers c.deref-site-items.result.now ≡ c.args.s.now.1 = ap site_numbers c.deref-site-items.ensures.value ∙ ap (λ (v : List ℕ × List ℕ). v.1) c.s.view_is in
    let m : length (site_numbers c.deref-site-items.result.now) ≡ length c.deref-site-items.result.now = simp length-map in
    let n = ap length inner in let t = c.loop-site-test.false in
    let e : take c.loop-site.site-index c.args.s.now.1 ≡ c.args.s.now.1 = take_all c.args.s.now.1 c.loop-site.site-index (omega (arith, m, n, t)) in
    subst (λ (us : List ℕ). AreDegrees (site_graph c.args.g.now) c.args.s.now.0 us c.loop-site.degrees.items) (ap (open_of (labels c.args.p.now)) e ∙ open_of_set c.args.g.now (labels c.args.p.now) c.args.s.now c.requires.set) c.loop-site.invariant.degrees
