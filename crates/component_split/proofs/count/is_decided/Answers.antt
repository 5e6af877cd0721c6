use Rattle.std.proofs.Common.{get_or, ◌≡◌, ℕ, List, [], true, false, length, drop, sym, ap, ◌∙◌, arith}
use Rattle.std.proofs.lemmas.List.{length-map}
use Rattle.component_split.specs.Chosen.{open_of}
use Rattle.component_split.specs.Tree.{is_empty}
use Rattle.component_split.specs.Over.{labels, site_numbers}
use Rattle.component_split.proofs.Choosing.{site_at, open_of_set, drop_none}
use Rattle.component_split.proofs.Trees.{open_at}
use Rattle.component_split.proofs.count.is_decided.Goals as goal

pub loop-site-init : goal.loop-site-init
loop-site-init c = sym (open_of_set c.args.g.now (labels c.args.p.now) c.args.s.now c.requires.set)

pub is_open-requires : goal.is_open-requires
is_open-requires c =
    let inner : site_numbers c.deref-site-items.result.now ≡ c.args.s.now.1 = ap site_numbers c.deref-site-items.ensures.value ∙ ap (λ (v : List ℕ × List ℕ). v.1) c.s.view_is in
    let at = site_at c.args.g.now c.args.s.now c.requires.set c.deref-site-items.result.now inner c.loop-site.site-index (record { 0 = 0 }) c.loop-site-test.true in
    c.requires.map (get_or c.deref-site-items.result.now c.loop-site.site-index (record { 0 = 0 })) at.candidate at.inside_it

pub returns-then-is_open : goal.returns-then-is_open
returns-then-is_open c =
    let inner : site_numbers c.deref-site-items.result.now ≡ c.args.s.now.1 = ap site_numbers c.deref-site-items.ensures.value ∙ ap (λ (v : List ℕ × List ℕ). v.1) c.s.view_is in
    let at = site_at c.args.g.now c.args.s.now c.requires.set c.deref-site-items.result.now inner c.loop-site.site-index (record { 0 = 0 }) c.loop-site-test.true in
    sym (ap is_empty (c.loop-site.invariant ∙ open_at c.args.g.now (labels c.args.p.now) c.args.s.now c.loop-site.site-index _ true at (sym c.is_open.ensures ∙ c.if-is_open.true)))

pub loop-site-preserved : goal.loop-site-preserved
loop-site-preserved c =
    let inner : site_numbers c.deref-site-items.result.now ≡ c.args.s.now.1 = ap site_numbers c.deref-site-items.ensures.value ∙ ap (λ (v : List ℕ × List ℕ). v.1) c.s.view_is in
    let at = site_at c.args.g.now c.args.s.now c.requires.set c.deref-site-items.result.now inner c.loop-site.site-index (record { 0 = 0 }) c.loop-site-test.true in
    c.loop-site.invariant ∙ open_at c.args.g.now (labels c.args.p.now) c.args.s.now c.loop-site.site-index _ false at (sym c.is_open.ensures ∙ c.if-is_open.false)

pub returns : goal.returns
returns c =
    let inner : site_numbers c.deref-site-items.result.now ≡ c.args.s.now.1 = ap site_numbers c.deref-site-items.ensures.value ∙ ap (λ (v : List ℕ × List ℕ). v.1) c.s.view_is in
    let m : length (site_numbers c.deref-site-items.result.now) ≡ length c.deref-site-items.result.now = simp length-map in
    let n = ap length inner in let t = c.loop-site-test.false in
    let e : drop c.loop-site.site-index c.args.s.now.1 ≡ [] = drop_none c.args.s.now.1 c.loop-site.site-index (omega (arith, m, n, t)) in
    sym (ap is_empty (c.loop-site.invariant ∙ ap (open_of (labels c.args.p.now)) e))
