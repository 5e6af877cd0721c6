use Rattle.std.proofs.Common.{◌≡◌, ◌<◌, ◌+◌, ◌^◌, ℕ, List, [], Option, None, true, length, take, drop, get_or, refl, sym, ap, subst, ◌∙◌, arith}
use Rattle.std.specs.Prelude.{slice_index, IfSome, IfNone}
use Rattle.std.proofs.lemmas.List.{length-map}
use Rattle.oi_base.specs.declared.ids.SiteId.{SiteId}
use Rattle.component_split.specs.Graph.{is_open, inside}
use Rattle.component_split.specs.Split.{open_sites}
use Rattle.component_split.specs.Chosen.{heaviest_from, heavier_of, site_number, open_of}
use Rattle.component_split.specs.Over.{site_graph, labels, site_numbers, IsCounted}
use Rattle.component_split.proofs.Lists.{filter_short}
use Rattle.component_split.proofs.Choosing.{site_at, open_of_set, counted, heavy_open, heavy_closed, heavier_inside, heavier_counted, still_none, none_open, take_all}
use Rattle.component_split.proofs.choice.heaviest.Goals as goal
use Rattle.component_split.proofs.choice.heaviest.Goals.{then-is_open, else-is_open}

pub loop-site-init : goal.loop-site-init
loop-site-init c = record {
  best = ap (heaviest_from (site_graph c.args.g.now) (open_sites (site_graph c.args.g.now) (labels c.args.p.now) c.args.s.now.0) None) (open_of_set c.args.g.now (labels c.args.p.now) c.args.s.now c.requires.set);
  counted = tt;
  none = refl;
  within = tt;
}

pub is_open-requires : goal.is_open-requires
is_open-requires c =
    let inner : site_numbers c.deref-site-items.result.now ≡ c.args.s.now.1 = ap site_numbers c.deref-site-items.ensures.value ∙ ap (λ (v : List ℕ × List ℕ). v.1) c.s.view_is in
    let at = site_at c.args.g.now c.args.s.now c.requires.set c.deref-site-items.result.now inner c.loop-site.site-index (record { 0 = 0 }) c.loop-site-test.true in
    c.requires.map (get_or c.deref-site-items.result.now c.loop-site.site-index (record { 0 = 0 })) at.candidate at.inside_it

pub heavier-requires-clause-site : goal.heavier-requires-clause-site
heavier-requires-clause-site c =
    let inner : site_numbers c.deref-site-items.result.now ≡ c.args.s.now.1 = ap site_numbers c.deref-site-items.ensures.value ∙ ap (λ (v : List ℕ × List ℕ). v.1) c.s.view_is in
    let at = site_at c.args.g.now c.args.s.now c.requires.set c.deref-site-items.result.now inner c.loop-site.site-index (record { 0 = 0 }) c.loop-site-test.true in
    let inside_sites : site_numbers c.s.inside.sites.items ≡ c.args.s.now.1 = ap (λ (v : List ℕ × List ℕ). v.1) c.s.view_is in
    let m : length (site_numbers c.s.inside.sites.items) ≡ length c.s.inside.sites.items = simp length-map in
    let n = ap length inside_sites in
    let o = c.s.inside.sites.ok.0 in let o2 = c.s.inside.sites.ok.1 in let k = c.s.inside.sites.small in
    let few : length c.args.s.now.1 < 2 ^ 63 = omega (arith, m, n, o, o2, k) in
    let us = open_sites (site_graph c.args.g.now) (labels c.args.p.now) c.args.s.now.0 in
    let e = ap length (open_of_set c.args.g.now (labels c.args.p.now) c.args.s.now c.requires.set) in
    let f = filter_short (λ q. is_open (labels c.args.p.now q)) c.args.s.now.1 in
    let x = get_or c.deref-site-items.result.now c.loop-site.site-index (record { 0 = 0 }) in
    subst (λ (ds : List ℕ). IsCounted c.args.g.now ds x.0) (sym c.deref.ensures.value)
    (counted c.args.g.now c.args.s.now c.loop-site.site-index x us c.count_degrees.new.degrees.items c.requires.set at (c.count_degrees.ensures.room ∙ c.requires.room) c.count_degrees.ensures.degrees (omega (arith, e, f, few)))

pub loop-site-preserved : goal.loop-site-preserved
loop-site-preserved c =
    let inner : site_numbers c.deref-site-items.result.now ≡ c.args.s.now.1 = ap site_numbers c.deref-site-items.ensures.value ∙ ap (λ (v : List ℕ × List ℕ). v.1) c.s.view_is in
    let at = site_at c.args.g.now c.args.s.now c.requires.set c.deref-site-items.result.now inner c.loop-site.site-index (record { 0 = 0 }) c.loop-site-test.true in
    let inside_sites : site_numbers c.s.inside.sites.items ≡ c.args.s.now.1 = ap (λ (v : List ℕ × List ℕ). v.1) c.s.view_is in
    let m : length (site_numbers c.s.inside.sites.items) ≡ length c.s.inside.sites.items = simp length-map in
    let n = ap length inside_sites in
    let o = c.s.inside.sites.ok.0 in let o2 = c.s.inside.sites.ok.1 in let k = c.s.inside.sites.small in
    let few : length c.args.s.now.1 < 2 ^ 63 = omega (arith, m, n, o, o2, k) in
    let g = site_graph c.args.g.now in
    let p = labels c.args.p.now in
    let us = open_sites g p c.args.s.now.0 in
    let ds = c.count_degrees.new.degrees.items in
    let x = get_or c.deref-site-items.result.now c.loop-site.site-index (record { 0 = 0 }) in
    let e = ap length (open_of_set c.args.g.now p c.args.s.now c.requires.set) in
    let f = filter_short (λ q. is_open (p q)) c.args.s.now.1 in
    let here = counted c.args.g.now c.args.s.now c.loop-site.site-index x us ds c.requires.set at (c.count_degrees.ensures.room ∙ c.requires.room) c.count_degrees.ensures.degrees (omega (arith, e, f, few)) in
    elim c.if-is_open.branch [
      | then-is_open w ↦
          let y = w.heavier.result in
          let h : y.0 ≡ heavier_of (slice_index ds) g c.loop-site.best x.0 = w.heavier.ensures ∙ ap (λ (es : List ℕ). heavier_of (slice_index es) g c.loop-site.best x.0) w.deref.ensures.value in
          record {
            best = ap (λ (o : Option SiteId). heaviest_from g us (site_number o) (open_of p (drop (c.loop-site.site-index + 1) c.args.s.now.1))) w.best-is ∙ sym (heavy_open c.args.g.now p c.args.s.now c.loop-site.site-index x y us ds c.loop-site.best at (sym c.is_open.ensures ∙ w.if-is_open.true) c.count_degrees.ensures.degrees c.loop-site.invariant.within h) ∙ c.loop-site.invariant.best;
            counted = subst (λ (o : Option SiteId). IfSome o (λ b. IsCounted c.args.g.now ds b.0)) (sym w.best-is) (heavier_counted c.args.g.now ds (slice_index ds) c.loop-site.best x y here c.loop-site.invariant.counted h);
            within = subst (λ (o : Option SiteId). IfSome o (λ b. inside g c.args.s.now.0 b.0 ≡ true)) (sym w.best-is) (heavier_inside g c.args.s.now.0 (slice_index ds) c.loop-site.best x y at.inside_it c.loop-site.invariant.within h);
            none = subst (λ (o : Option SiteId). IfNone o (open_of p (take (c.loop-site.site-index + 1) c.args.s.now.1) ≡ [])) (sym w.best-is) tt;
          }
      | else-is_open w ↦ record {
        best = ap (λ (o : Option SiteId). heaviest_from g us (site_number o) (open_of p (drop (c.loop-site.site-index + 1) c.args.s.now.1))) w.best-is ∙ sym (heavy_closed c.args.g.now p c.args.s.now c.loop-site.site-index x us c.loop-site.best at (sym c.is_open.ensures ∙ w.if-is_open.false)) ∙ c.loop-site.invariant.best;
        counted = subst (λ (o : Option SiteId). IfSome o (λ b. IsCounted c.args.g.now ds b.0)) (sym w.best-is) c.loop-site.invariant.counted;
        within = subst (λ (o : Option SiteId). IfSome o (λ b. inside g c.args.s.now.0 b.0 ≡ true)) (sym w.best-is) c.loop-site.invariant.within;
        none = subst (λ (o : Option SiteId). IfNone o (open_of p (take (c.loop-site.site-index + 1) c.args.s.now.1) ≡ [])) (sym w.best-is) (still_none c.args.g.now p c.args.s.now c.loop-site.site-index x c.loop-site.best at (sym c.is_open.ensures ∙ w.if-is_open.false) c.loop-site.invariant.none);
      }
    ]

pub returns-clause-some : goal.returns-clause-some
returns-clause-some c =
    let inner : site_numbers c.deref-site-items.result.now ≡ c.args.s.now.1 = ap site_numbers c.deref-site-items.ensures.value ∙ ap (λ (v : List ℕ × List ℕ). v.1) c.s.view_is in
    let m : length (site_numbers c.deref-site-items.result.now) ≡ length c.deref-site-items.result.now = simp length-map in
    let n = ap length inner in let t = c.loop-site-test.false in
    let e : take c.loop-site.site-index c.args.s.now.1 ≡ c.args.s.now.1 = take_all c.args.s.now.1 c.loop-site.site-index (omega (arith, m, n, t)) in
    none_open (site_graph c.args.g.now) (labels c.args.p.now) c.args.s.now.0 (open_of (labels c.args.p.now) (take c.loop-site.site-index c.args.s.now.1)) c.loop-site.best (ap (open_of (labels c.args.p.now)) e ∙ open_of_set c.args.g.now (labels c.args.p.now) c.args.s.now c.requires.set) c.loop-site.invariant.none
