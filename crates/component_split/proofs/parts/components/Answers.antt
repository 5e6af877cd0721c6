use Rattle.std.proofs.Common.{◌≡◌, ℕ, List, map, length, sym, ap, subst, ◌∙◌}
use Rattle.std.specs.List.{All}
use Rattle.oi_base.specs.declared.ids.FuncId.{FuncId}
use Rattle.oi_base.specs.declared.ids.SiteId.{SiteId}
use Rattle.component_split.specs.Split.{lowest, roots}
use Rattle.component_split.specs.Members.{funcs_in, AreLows, HaveHeads}
use Rattle.component_split.specs.Over.{func_numbers, site_numbers, site_graph, labels, IsRising, IsSetOf, AreSitesInside}
use Rattle.component_split.proofs.Known.{sites_inside}
use Rattle.component_split.proofs.Dealing.{have_heads, components_are, sites_of_parts, as_many, first_parts, parts_are_sets, lists_rise}
use Rattle.component_split.proofs.parts.components.Goals as goal

pub deal_funcs-requires-clause-rising : goal.deal_funcs-requires-clause-rising
deal_funcs-requires-clause-rising c = subst IsRising (sym (ap func_numbers c.deref.ensures.value)) c.in_ok-members.ensures.rising

pub deal_funcs-requires-clause-heads : goal.deal_funcs-requires-clause-heads
deal_funcs-requires-clause-heads c =
    subst (HaveHeads (func_numbers c.deref.result.now)) (sym c.deref-2.ensures.value)
    (have_heads (site_graph c.args.g.now) (labels c.args.p.now) c.args.s.now.0 (func_numbers c.deref.result.now) c.in_ok-members.members.items (ap func_numbers c.deref.ensures.value ∙ c.in_ok-members.ensures.heads) c.in_ok-members.ensures.funcs c.in_ok-members.ensures.lows)

pub deal_sites-requires-clause-heads_rise : goal.deal_sites-requires-clause-heads_rise
deal_sites-requires-clause-heads_rise c = subst IsRising (sym (ap func_numbers c.deref-3.ensures.value)) c.in_ok-members.ensures.rising

pub deal_sites-requires-clause-heads : goal.deal_sites-requires-clause-heads
deal_sites-requires-clause-heads c =
    subst (HaveHeads (func_numbers c.deref-3.result.now)) (sym c.deref-4.ensures.value)
    (have_heads (site_graph c.args.g.now) (labels c.args.p.now) c.args.s.now.0 (func_numbers c.deref-3.result.now) c.in_ok-members.members.items (ap func_numbers c.deref-3.ensures.value ∙ c.in_ok-members.ensures.heads) c.in_ok-members.ensures.funcs c.in_ok-members.ensures.lows)

pub deal_sites-requires-clause-inside : goal.deal_sites-requires-clause-inside
deal_sites-requires-clause-inside c =
    let view : func_numbers c.s.inside.funcs.items ≡ c.args.s.now.0 = ap (λ (v : List ℕ × List ℕ). v.0) c.s.view_is in
    let inner : site_numbers c.s.inside.sites.items ≡ c.args.s.now.1 = ap (λ (v : List ℕ × List ℕ). v.1) c.s.view_is in
    subst (λ (xs : List ℕ). AreSitesInside c.args.g.now xs (site_numbers c.deref-6.result.now)) (sym (ap func_numbers c.deref-5.ensures.value ∙ view))
    (subst (AreSitesInside c.args.g.now c.args.s.now.0) (sym (ap site_numbers c.deref-6.ensures.value ∙ inner)) (sites_inside c.args.g.now c.args.s.now c.requires.set))

pub sets_of-requires-clause-lengths : goal.sets_of-requires-clause-lengths
sets_of-requires-clause-lengths c =
    let g = site_graph c.args.g.now in
    let p = labels c.args.p.now in
    let fs = c.args.s.now.0 in
    let dealt = components_are g p fs (func_numbers c.deref.result.now) c.deref-2.result.now (map func_numbers c.in_ok-funcs.funcs.items) (ap func_numbers c.deref.ensures.value ∙ c.in_ok-members.ensures.heads) (ap funcs_in c.deref-2.ensures.value ∙ c.in_ok-members.ensures.funcs) (subst (AreLows (lowest g p fs)) (sym c.deref-2.ensures.value) c.in_ok-members.ensures.lows) c.in_ok-funcs.ensures in
    let inner = ap (λ (v : List ℕ × List ℕ). v.1) c.s.view_is ∙ c.requires.set.sites in
    let placed = sites_of_parts g p fs (func_numbers c.deref-3.result.now) (site_numbers c.deref-6.result.now) (map site_numbers c.in_ok-sites.sites.items) (ap func_numbers c.deref-3.ensures.value ∙ c.in_ok-members.ensures.heads) (ap site_numbers c.deref-6.ensures.value ∙ inner) (c.in_ok-sites.ensures (lowest g p fs) (subst (AreLows (lowest g p fs)) (sym c.deref-4.ensures.value) c.in_ok-members.ensures.lows)) in
    ap length c.deref-7.ensures.value ∙ as_many g p fs c.in_ok-funcs.funcs.items c.in_ok-sites.sites.items dealt placed ∙ sym (ap length c.deref-8.ensures.value)

pub sets_of-requires-clause-rising : goal.sets_of-requires-clause-rising
sets_of-requires-clause-rising c =
    let g = site_graph c.args.g.now in
    let p = labels c.args.p.now in
    let fs = c.args.s.now.0 in
    let rise : IsRising fs = subst IsRising (ap (λ (v : List ℕ × List ℕ). v.0) c.s.view_is) c.s.invariant in
    let dealt = components_are g p fs (func_numbers c.deref.result.now) c.deref-2.result.now (map func_numbers c.in_ok-funcs.funcs.items) (ap func_numbers c.deref.ensures.value ∙ c.in_ok-members.ensures.heads) (ap funcs_in c.deref-2.ensures.value ∙ c.in_ok-members.ensures.funcs) (subst (AreLows (lowest g p fs)) (sym c.deref-2.ensures.value) c.in_ok-members.ensures.lows) c.in_ok-funcs.ensures in
    lists_rise g p fs (roots g p fs) c.deref-7.result.now rise (ap (λ (ls : List (List FuncId)). map func_numbers ls) c.deref-7.ensures.value ∙ dealt)

pub returns-clause-parts : goal.returns-clause-parts
returns-clause-parts c =
    let g = site_graph c.args.g.now in
    let p = labels c.args.p.now in
    let fs = c.args.s.now.0 in
    let dealt = components_are g p fs (func_numbers c.deref.result.now) c.deref-2.result.now (map func_numbers c.in_ok-funcs.funcs.items) (ap func_numbers c.deref.ensures.value ∙ c.in_ok-members.ensures.heads) (ap funcs_in c.deref-2.ensures.value ∙ c.in_ok-members.ensures.funcs) (subst (AreLows (lowest g p fs)) (sym c.deref-2.ensures.value) c.in_ok-members.ensures.lows) c.in_ok-funcs.ensures in
    let inner = ap (λ (v : List ℕ × List ℕ). v.1) c.s.view_is ∙ c.requires.set.sites in
    let placed = sites_of_parts g p fs (func_numbers c.deref-3.result.now) (site_numbers c.deref-6.result.now) (map site_numbers c.in_ok-sites.sites.items) (ap func_numbers c.deref-3.ensures.value ∙ c.in_ok-members.ensures.heads) (ap site_numbers c.deref-6.ensures.value ∙ inner) (c.in_ok-sites.ensures (lowest g p fs) (subst (AreLows (lowest g p fs)) (sym c.deref-4.ensures.value) c.in_ok-members.ensures.lows)) in
    first_parts g p fs c.deref-7.result.now c.deref-8.result.now c.in_ok-parts.parts.items c.in_ok-parts.ensures (ap (λ (ls : List (List FuncId)). map func_numbers ls) c.deref-7.ensures.value ∙ dealt) (ap (λ (ls : List (List SiteId)). map site_numbers ls) c.deref-8.ensures.value ∙ placed)

pub returns-clause-sets : goal.returns-clause-sets
returns-clause-sets c =
    let g = site_graph c.args.g.now in
    let p = labels c.args.p.now in
    let fs = c.args.s.now.0 in
    let dealt = components_are g p fs (func_numbers c.deref.result.now) c.deref-2.result.now (map func_numbers c.in_ok-funcs.funcs.items) (ap func_numbers c.deref.ensures.value ∙ c.in_ok-members.ensures.heads) (ap funcs_in c.deref-2.ensures.value ∙ c.in_ok-members.ensures.funcs) (subst (AreLows (lowest g p fs)) (sym c.deref-2.ensures.value) c.in_ok-members.ensures.lows) c.in_ok-funcs.ensures in
    let inner = ap (λ (v : List ℕ × List ℕ). v.1) c.s.view_is ∙ c.requires.set.sites in
    let placed = sites_of_parts g p fs (func_numbers c.deref-3.result.now) (site_numbers c.deref-6.result.now) (map site_numbers c.in_ok-sites.sites.items) (ap func_numbers c.deref-3.ensures.value ∙ c.in_ok-members.ensures.heads) (ap site_numbers c.deref-6.ensures.value ∙ inner) (c.in_ok-sites.ensures (lowest g p fs) (subst (AreLows (lowest g p fs)) (sym c.deref-4.ensures.value) c.in_ok-members.ensures.lows)) in
    subst (λ (ps : List (List ℕ × List ℕ)). All (λ c'. IsSetOf c.args.g.now c') ps) (sym c.in_ok-parts.ensures)
    (parts_are_sets c.args.g.now p fs (map func_numbers c.deref-7.result.now) (map site_numbers c.deref-8.result.now) c.requires.set.in_range (ap (λ (ls : List (List FuncId)). map func_numbers ls) c.deref-7.ensures.value ∙ dealt) (ap (λ (ls : List (List SiteId)). map site_numbers ls) c.deref-8.ensures.value ∙ placed))
