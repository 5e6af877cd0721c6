use Rattle.std.proofs.Common.{◌≡◌, ℕ, List, sym, ap, subst, ◌∙◌}
use Rattle.std.specs.List.{filter}
use Rattle.component_split.specs.declared.parts.Member.{Member}
use Rattle.component_split.specs.Split.{lowest}
use Rattle.component_split.specs.Classes.{AreComponentsOf}
use Rattle.component_split.specs.Members.{funcs_in, is_head, AreLows}
use Rattle.component_split.specs.Over.{func_numbers, site_graph, labels, IsRising}
use Rattle.component_split.proofs.Dealing.{heads_are, heads_rise, lows_of}
use Rattle.component_split.proofs.parts.members_and_heads.Goals as goal

pub returns-clause-funcs : goal.returns-clause-funcs
returns-clause-funcs c = c.in_ok-members.ensures.funcs ∙ ap func_numbers c.deref.ensures.value ∙ ap (λ (v : List ℕ × List ℕ). v.0) c.s.view_is

pub returns-clause-lows : goal.returns-clause-lows
returns-clause-lows c =
    let own = ap func_numbers c.deref.ensures.value ∙ ap (λ (v : List ℕ × List ℕ). v.0) c.s.view_is in
    lows_of (site_graph c.args.g.now) (labels c.args.p.now) (func_numbers c.deref.result.now) c.args.s.now.0 c.join_sites.new.parents.items c.in_ok-members.members.items own (c.in_ok-members.ensures.lows (site_graph c.args.g.now) (labels c.args.p.now)) c.join_sites.ensures.classes

pub returns-clause-heads : goal.returns-clause-heads
returns-clause-heads c =
    let g = site_graph c.args.g.now in
    let p = labels c.args.p.now in
    let own = ap func_numbers c.deref.ensures.value ∙ ap (λ (v : List ℕ × List ℕ). v.0) c.s.view_is in
    let lows = lows_of g p (func_numbers c.deref.result.now) c.args.s.now.0 c.join_sites.new.parents.items c.in_ok-members.members.items own (c.in_ok-members.ensures.lows g p) c.join_sites.ensures.classes in
    c.in_ok-heads.ensures ∙ ap (λ (xs : List Member). funcs_in (filter is_head xs)) c.deref-2.ensures.value ∙ heads_are g p c.args.s.now.0 c.in_ok-members.members.items (c.in_ok-members.ensures.funcs ∙ own) lows

pub returns-clause-rising : goal.returns-clause-rising
returns-clause-rising c =
    let g = site_graph c.args.g.now in
    let p = labels c.args.p.now in
    let view = ap (λ (v : List ℕ × List ℕ). v.0) c.s.view_is in
    let own = ap func_numbers c.deref.ensures.value ∙ view in
    let lows = lows_of g p (func_numbers c.deref.result.now) c.args.s.now.0 c.join_sites.new.parents.items c.in_ok-members.members.items own (c.in_ok-members.ensures.lows g p) c.join_sites.ensures.classes in
    let heads = c.in_ok-heads.ensures ∙ ap (λ (xs : List Member). funcs_in (filter is_head xs)) c.deref-2.ensures.value ∙ heads_are g p c.args.s.now.0 c.in_ok-members.members.items (c.in_ok-members.ensures.funcs ∙ own) lows in
    heads_rise g p c.args.s.now.0 (func_numbers c.in_ok-heads.heads.items) heads (subst IsRising view c.s.invariant)
