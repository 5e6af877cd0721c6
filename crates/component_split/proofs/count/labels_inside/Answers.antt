use Rattle.std.proofs.Common.{◌≡◌, ℕ, List, length, get_or, sym, ap, subst, ◌∙◌, arith}
use Rattle.std.proofs.lemmas.List.{length-map}
use Rattle.oi_base.specs.declared.ids.SiteId.{SiteId}
use Rattle.decisions.specs.Maps.{label_of}
use Rattle.component_split.specs.Over.{site_numbers, IsRising}
use Rattle.component_split.proofs.Lists.{has_at}
use Rattle.component_split.proofs.Choosing.{site_at}
use Rattle.component_split.proofs.ArcLists.{sites_rise}
use Rattle.component_split.proofs.Held.{sites_ascend, Copied, none_copied, one_copied, copied_holds, copied_agree}
use Rattle.component_split.proofs.count.labels_inside.Goals as goal

pub start-requires : goal.start-requires
start-requires c =
    let numbers : site_numbers c.deref.result.now ≡ c.args.set.now.1 = ap site_numbers c.deref.ensures.value ∙ ap (λ (v : List ℕ × List ℕ). v.1) c.set.view_is in
    sites_ascend c.deref.result.now (subst IsRising (sym numbers) (sites_rise c.args.g.now c.args.set.now c.requires.set))

pub loop-site-init : goal.loop-site-init
loop-site-init c =
    let numbers : site_numbers c.deref.result.now ≡ c.args.set.now.1 = ap site_numbers c.deref.ensures.value ∙ ap (λ (v : List ℕ × List ℕ). v.1) c.set.view_is in
    none_copied c.deref.result.now c.args.set.now.1 c.args.partial.now c.in_ok-inside.inside numbers (c.in_ok-inside.ensures {u = tt}) (λ j l. has_at c.args.set.now.1 j l)

pub copy_label-requires-clause-held : goal.copy_label-requires-clause-held
copy_label-requires-clause-held c =
    let inner : site_numbers c.deref-site-items.result.now ≡ c.args.set.now.1 = ap site_numbers c.deref-site-items.ensures.value ∙ ap (λ (v : List ℕ × List ℕ). v.1) c.set.view_is in
    let at = site_at c.args.g.now c.args.set.now c.requires.set c.deref-site-items.result.now inner c.loop-site.site-index (record { 0 = 0 }) c.loop-site-test.true in
    c.requires.map (get_or c.deref-site-items.result.now c.loop-site.site-index (record { 0 = 0 })) at.candidate at.inside_it

pub copy_label-requires-clause-undecided : goal.copy_label-requires-clause-undecided
copy_label-requires-clause-undecided c =
    let inner : site_numbers c.deref-site-items.result.now ≡ c.args.set.now.1 = ap site_numbers c.deref-site-items.ensures.value ∙ ap (λ (v : List ℕ × List ℕ). v.1) c.set.view_is in
    let at = site_at c.args.g.now c.args.set.now c.requires.set c.deref-site-items.result.now inner c.loop-site.site-index (record { 0 = 0 }) c.loop-site-test.true in
    let x : SiteId = get_or c.deref-site-items.result.now c.loop-site.site-index (record { 0 = 0 }) in
    ap (λ n. label_of c.loop-site.inside (record { 0 = n })) (sym at.number) ∙ c.loop-site.invariant.rest c.loop-site.site-index (omega arith) at.within

pub loop-site-preserved : goal.loop-site-preserved
loop-site-preserved c =
    let inner : site_numbers c.deref-site-items.result.now ≡ c.args.set.now.1 = ap site_numbers c.deref-site-items.ensures.value ∙ ap (λ (v : List ℕ × List ℕ). v.1) c.set.view_is in
    let at = site_at c.args.g.now c.args.set.now c.requires.set c.deref-site-items.result.now inner c.loop-site.site-index (record { 0 = 0 }) c.loop-site-test.true in
    let x : SiteId = get_or c.deref-site-items.result.now c.loop-site.site-index (record { 0 = 0 }) in
    one_copied c.args.set.now.1 c.args.partial.now c.loop-site.inside c.copy_label.new.to c.loop-site.site-index x (sites_rise c.args.g.now c.args.set.now c.requires.set) at.within at.number c.copy_label.ensures.label c.copy_label.ensures.others c.loop-site.invariant

pub returns-clause-map : goal.returns-clause-map
returns-clause-map c =
    let inner : site_numbers c.deref-site-items.result.now ≡ c.args.set.now.1 = ap site_numbers c.deref-site-items.ensures.value ∙ ap (λ (v : List ℕ × List ℕ). v.1) c.set.view_is in
    let m : length (site_numbers c.deref-site-items.result.now) ≡ length c.deref-site-items.result.now = simp length-map in
    let n = ap length inner in let t = c.loop-site-test.false in let u = c.loop-site.auto.site-index-end in
    let whole : c.loop-site.site-index ≡ length c.args.set.now.1 = omega (arith, m, n, t, u) in
    let copied : Copied c.args.set.now.1 c.args.partial.now c.loop-site.inside (length c.args.set.now.1) = subst (λ k. Copied c.args.set.now.1 c.args.partial.now c.loop-site.inside k) whole c.loop-site.invariant in
    copied_holds c.args.g.now c.args.set.now c.requires.set c.args.partial.now c.loop-site.inside copied c.requires.map

pub returns-clause-agree : goal.returns-clause-agree
returns-clause-agree c =
    let inner : site_numbers c.deref-site-items.result.now ≡ c.args.set.now.1 = ap site_numbers c.deref-site-items.ensures.value ∙ ap (λ (v : List ℕ × List ℕ). v.1) c.set.view_is in
    let m : length (site_numbers c.deref-site-items.result.now) ≡ length c.deref-site-items.result.now = simp length-map in
    let n = ap length inner in let t = c.loop-site-test.false in let u = c.loop-site.auto.site-index-end in
    let whole : c.loop-site.site-index ≡ length c.args.set.now.1 = omega (arith, m, n, t, u) in
    let copied : Copied c.args.set.now.1 c.args.partial.now c.loop-site.inside (length c.args.set.now.1) = subst (λ k. Copied c.args.set.now.1 c.args.partial.now c.loop-site.inside k) whole c.loop-site.invariant in
    copied_agree c.args.g.now c.args.set.now c.requires.set c.args.partial.now c.loop-site.inside copied
