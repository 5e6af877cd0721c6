use Rattle.std.proofs.Common.{◌≡◌, ℕ, List, [], length, drop, refl, sym, ap, ◌∙◌, arith, true, false}
use Rattle.std.proofs.lemmas.List.{length-map}
use Rattle.component_split.specs.Chosen.{first_bridge, open_of}
use Rattle.component_split.specs.Over.{site_graph, labels, site_numbers}
use Rattle.component_split.proofs.Choosing.{site_at, open_of_set, bridge_at, drop_none}
use Rattle.component_split.proofs.choice.lowest_bridge.Goals as goal

pub loop-site-init : goal.loop-site-init
loop-site-init c = record {
  first = λ other. ap (λ (us : List ℕ). first_bridge (site_graph c.args.g.now) (labels c.args.p.now) c.args.s.now.0 us other) (sym (open_of_set c.args.g.now (labels c.args.p.now) c.args.s.now c.requires.set));
  marks = refl;
}

pub is_open_bridge-requires-clause-candidate : goal.is_open_bridge-requires-clause-candidate
is_open_bridge-requires-clause-candidate c =
    let inner : site_numbers c.deref-site-items.result.now ≡ c.args.s.now.1 = ap site_numbers c.deref-site-items.ensures.value ∙ ap (λ (v : List ℕ × List ℕ). v.1) c.s.view_is in
    (site_at c.args.g.now c.args.s.now c.requires.set c.deref-site-items.result.now inner c.loop-site.site-index (record { 0 = 0 }) c.loop-site-test.true).candidate

pub is_open_bridge-requires-clause-inside : goal.is_open_bridge-requires-clause-inside
is_open_bridge-requires-clause-inside c =
    let inner : site_numbers c.deref-site-items.result.now ≡ c.args.s.now.1 = ap site_numbers c.deref-site-items.ensures.value ∙ ap (λ (v : List ℕ × List ℕ). v.1) c.s.view_is in
    (site_at c.args.g.now c.args.s.now c.requires.set c.deref-site-items.result.now inner c.loop-site.site-index (record { 0 = 0 }) c.loop-site-test.true).inside_it

pub loop-site-preserved : goal.loop-site-preserved
loop-site-preserved c =
    let inner : site_numbers c.deref-site-items.result.now ≡ c.args.s.now.1 = ap site_numbers c.deref-site-items.ensures.value ∙ ap (λ (v : List ℕ × List ℕ). v.1) c.s.view_is in
    let at = site_at c.args.g.now c.args.s.now c.requires.set c.deref-site-items.result.now inner c.loop-site.site-index (record { 0 = 0 }) c.loop-site-test.true in
    record {
      first = λ other. c.loop-site.invariant.first other ∙ bridge_at c.args.g.now (labels c.args.p.now) c.args.s.now c.loop-site.site-index _ other false at (sym c.is_open_bridge.ensures.bridge ∙ c.if-is_open_bridge.false);
      marks = c.is_open_bridge.ensures.marks ∙ c.loop-site.invariant.marks;
    }

pub returns-then-is_open_bridge-clause-bridge : goal.returns-then-is_open_bridge-clause-bridge
returns-then-is_open_bridge-clause-bridge c =
    let inner : site_numbers c.deref-site-items.result.now ≡ c.args.s.now.1 = ap site_numbers c.deref-site-items.ensures.value ∙ ap (λ (v : List ℕ × List ℕ). v.1) c.s.view_is in
    let at = site_at c.args.g.now c.args.s.now c.requires.set c.deref-site-items.result.now inner c.loop-site.site-index (record { 0 = 0 }) c.loop-site-test.true in
    λ other. c.loop-site.invariant.first other ∙ bridge_at c.args.g.now (labels c.args.p.now) c.args.s.now c.loop-site.site-index _ other true at (sym c.is_open_bridge.ensures.bridge ∙ c.if-is_open_bridge.true)

pub returns-clause-bridge : goal.returns-clause-bridge
returns-clause-bridge c =
    let inner : site_numbers c.s.inside.sites.items ≡ c.args.s.now.1 = ap (λ (v : List ℕ × List ℕ). v.1) c.s.view_is in
    let m : length (site_numbers c.s.inside.sites.items) ≡ length c.s.inside.sites.items = simp length-map in
    let n = ap length inner in let t = c.loop-site-test.false in
    let e : drop c.loop-site.site-index c.args.s.now.1 ≡ [] = drop_none c.args.s.now.1 c.loop-site.site-index (omega (arith, m, n, t)) in
    λ other. c.loop-site.invariant.first other ∙ ap (λ (ss : List ℕ). first_bridge (site_graph c.args.g.now) (labels c.args.p.now) c.args.s.now.0 (open_of (labels c.args.p.now) ss) other) e
