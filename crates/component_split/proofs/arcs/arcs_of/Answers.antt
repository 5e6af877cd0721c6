use Rattle.std.proofs.Common.{◌≡◌, ℕ, List, [], length, slice_index_or, sym, ap, subst, ◌∙◌}
use Rattle.std.proofs.lemmas.Bool.{and_from}
use Rattle.std.proofs.lemmas.List.{length-replicate}
use Rattle.component_split.specs.Graph.{inside, joins}
use Rattle.component_split.specs.Arcs.{AreArcs, PutsArcs}
use Rattle.component_split.specs.declared.arcs.Arc.{Arc}
use Rattle.component_split.specs.Over.{site_graph, labels, site_numbers, func_numbers}
use Rattle.component_split.proofs.FuncSearch.{map_length}
use Rattle.component_split.proofs.Choosing.{site_at}
use Rattle.component_split.proofs.ArcLists.{puts_count, puts_arcs, none_put, get_replicate}
use Rattle.component_split.proofs.arcs.arcs_of.Goals as goal
use Rattle.component_split.proofs.arcs.arcs_of.Goals.{then-joins+in_ok-put_arcs, else-joins}

pub loop-at-init : goal.loop-at-init
loop-at-init c = record {
  count =
      let f : func_numbers c.s.inside.funcs.items ≡ c.args.s.now.0 = ap (λ (v : List ℕ × List ℕ). v.0) c.s.view_is in
      let n = map_length c.s.inside.funcs.items in
      ap length c.in_ok-arcs.ensures ∙ length-replicate c.len.result [] ∙ c.len.ensures ∙ c.s.inside.funcs.ok.0 ∙ sym n ∙ ap length f;
  arcs = none_put (site_graph c.args.g.now) (labels c.args.p.now) c.args.s.now.0 c.args.s.now.1 c.in_ok-arcs.arcs.items (λ j. get_replicate c.len.result j c.in_ok-arcs.arcs.items c.in_ok-arcs.ensures);
}

pub joins-requires : goal.joins-requires
joins-requires c =
    let inner : site_numbers c.deref-site-items.result.now ≡ c.args.s.now.1 = ap site_numbers c.deref-site-items.ensures.value ∙ ap (λ (v : List ℕ × List ℕ). v.1) c.s.view_is in
    let at = site_at c.args.g.now c.args.s.now c.requires.set c.deref-site-items.result.now inner c.loop-at.at (record { 0 = 0 }) c.loop-at-test.true in
    c.requires.map (slice_index_or c.deref-site-items.result.now c.loop-at.at (record { 0 = 0 })) at.candidate at.inside_it

pub put_arcs-requires-clause-candidate : goal.put_arcs-requires-clause-candidate
put_arcs-requires-clause-candidate c =
    let inner : site_numbers c.deref-site-items.result.now ≡ c.args.s.now.1 = ap site_numbers c.deref-site-items.ensures.value ∙ ap (λ (v : List ℕ × List ℕ). v.1) c.s.view_is in
    let at = site_at c.args.g.now c.args.s.now c.requires.set c.deref-site-items.result.now inner c.loop-at.at (record { 0 = 0 }) c.loop-at-test.true in
    at.candidate

pub put_arcs-requires-clause-inside : goal.put_arcs-requires-clause-inside
put_arcs-requires-clause-inside c =
    let inner : site_numbers c.deref-site-items.result.now ≡ c.args.s.now.1 = ap site_numbers c.deref-site-items.ensures.value ∙ ap (λ (v : List ℕ × List ℕ). v.1) c.s.view_is in
    let at = site_at c.args.g.now c.args.s.now c.requires.set c.deref-site-items.result.now inner c.loop-at.at (record { 0 = 0 }) c.loop-at-test.true in
    let f : func_numbers c.as_slice.result.now ≡ c.args.s.now.0 = ap func_numbers c.as_slice.ensures.value ∙ ap (λ (v : List ℕ × List ℕ). v.0) c.s.view_is in
    ap (λ (xs : List ℕ). inside (site_graph c.args.g.now) xs (slice_index_or c.deref-site-items.result.now c.loop-at.at (record { 0 = 0 })).0) f ∙ at.inside_it

pub loop-at-preserved : goal.loop-at-preserved
loop-at-preserved c =
    let g = site_graph c.args.g.now in
    let p = labels c.args.p.now in
    let fs = c.args.s.now.0 in
    let ss = c.args.s.now.1 in
    let inner : site_numbers c.deref-site-items.result.now ≡ c.args.s.now.1 = ap site_numbers c.deref-site-items.ensures.value ∙ ap (λ (v : List ℕ × List ℕ). v.1) c.s.view_is in
    let at = site_at c.args.g.now c.args.s.now c.requires.set c.deref-site-items.result.now inner c.loop-at.at (record { 0 = 0 }) c.loop-at-test.true in
    elim c.if-joins.branch [
      | then-joins+in_ok-put_arcs w ↦
          let f : func_numbers w.as_slice.result.now ≡ fs = ap func_numbers w.as_slice.ensures.value ∙ ap (λ (v : List ℕ × List ℕ). v.0) c.s.view_is in
          let x = slice_index_or c.deref-site-items.result.now c.loop-at.at (record { 0 = 0 }) in
          let puts : PutsArcs fs (g.caller x.0) (g.callee x.0) c.loop-at.at c.loop-at.arcs.items w.put_arcs.new.arcs.items = subst (λ (xs : List ℕ). PutsArcs xs (g.caller x.0) (g.callee x.0) c.loop-at.at c.loop-at.arcs.items w.put_arcs.new.arcs.items) f w.in_ok-put_arcs.ensures in
          let joining = and_from (inside g fs x.0) (joins (p x.0)) at.inside_it (sym c.joins.ensures ∙ w.if-joins.true) in
          record {
            count = ap (λ v. length v.items) w.arcs-is ∙ puts_count g p fs ss (g.caller x.0) (g.callee x.0) c.loop-at.at c.loop-at.arcs.items w.put_arcs.new.arcs.items puts ∙ c.loop-at.invariant.count;
            arcs = subst (λ (v : List (List Arc)). AreArcs g p fs ss v) (sym (ap (λ v. v.items) w.arcs-is)) (puts_arcs g p fs ss x.0 c.loop-at.at c.loop-at.arcs.items w.put_arcs.new.arcs.items at.within at.number at.candidate joining c.loop-at.invariant.count puts c.loop-at.invariant.arcs);
          }
      | else-joins w ↦ record {
        count = ap (λ v. length v.items) w.arcs-is ∙ c.loop-at.invariant.count;
        arcs = subst (λ (v : List (List Arc)). AreArcs g p fs ss v) (sym (ap (λ v. v.items) w.arcs-is)) c.loop-at.invariant.arcs;
      }
    ]
