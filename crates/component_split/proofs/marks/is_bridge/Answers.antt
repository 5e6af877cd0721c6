use Rattle.std.proofs.Common.{◌≡◌, ℕ, List, length, sym, ap, subst, ◌∙◌, arith}
use Rattle.std.specs.Prelude.{nat_lt}
use Rattle.decisions.specs.declared.maps.Label.TheVariants.{Keep}
use Rattle.component_split.specs.Graph.{with_label}
use Rattle.component_split.specs.Classes.{own_parents}
use Rattle.component_split.specs.Over.{site_graph, labels, func_numbers, IsRising}
use Rattle.component_split.proofs.Lists.{rising_short}
use Rattle.component_split.proofs.FuncSearch.{map_length}
use Rattle.component_split.proofs.Counting.{own_count, components_count}
use Rattle.component_split.proofs.marks.is_bridge.Goals as goal

pub part-requires-clause-room : goal.part-requires-clause-room
part-requires-clause-room c =
    let f : func_numbers c.s.inside.funcs.items ≡ c.args.s.now.0 = ap (λ (v : List ℕ × List ℕ). v.0) c.s.view_is in
    let m : length c.marks.inside.parents.items ≡ c.args.marks.now = c.marks.view_is in
    let k = c.requires.marks in
    let r : IsRising c.args.s.now.0 = subst IsRising f c.s.invariant in
    let l = rising_short c.args.s.now.0 (length c.args.g.now.funcs) r c.requires.set.in_range in
    let n = map_length c.s.inside.funcs.items in
    let a = ap length f in
    let v : c.len.result ≡ length c.s.inside.funcs.items = c.len.ensures ∙ c.s.inside.funcs.ok.0 in
    omega (arith, m, k, l, n, a, v)

pub returns-clause-bridge : goal.returns-clause-bridge
returns-clause-bridge c =
    let f : func_numbers c.s.inside.funcs.items ≡ c.args.s.now.0 = ap (λ (v : List ℕ × List ℕ). v.0) c.s.view_is in
    let g = site_graph c.args.g.now in
    let p = with_label (labels c.args.p.now) c.args.site.0 Keep in
    let fs = c.args.s.now.0 in
    let r : IsRising fs = subst IsRising f c.s.invariant in
    let n : c.len-2.result ≡ length fs = c.len-2.ensures ∙ c.s.inside.funcs.ok.0 ∙ sym (map_length c.s.inside.funcs.items) ∙ ap length f in
    let e : c.count_roots.result ≡ own_parents c.join_sites.new.parents.items (length fs) = c.count_roots.ensures ∙ ap (λ k. own_parents c.deref.result.now k) n ∙ ap (λ (ps : List ℕ). own_parents ps (length fs)) c.deref.ensures.value in
    ap (nat_lt 1) (e ∙ own_count g p fs c.join_sites.new.parents.items r c.join_sites.ensures.classes ∙ sym (components_count g p fs))
