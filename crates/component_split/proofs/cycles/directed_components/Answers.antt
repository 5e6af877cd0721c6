use Rattle.std.proofs.Common.{◌≡◌, List, true, length, sym, ap, ◌∙◌, subst}
use Rattle.strong_components.specs.declared.edge.Edge.{Edge}
use Rattle.strong_components.specs.Chains.{IsRootIn}
use Rattle.strong_components.specs.Walk.{AreEdges, AreComponents}
use Rattle.strong_components.proofs.Walked.{fresh, long}
use Rattle.component_split.specs.declared.arcs.Arc.{Arc}
use Rattle.component_split.specs.Arcs.{edges_of}
use Rattle.component_split.specs.Over.{site_graph, labels}
use Rattle.component_split.proofs.ArcLists.{are_edges, shown, sites_rise, set_has}
use Rattle.component_split.proofs.cycles.directed_components.Goals as goal

pub components-requires : goal.components-requires
components-requires c =
    let g = site_graph c.args.g.now in let p = labels c.args.p.now in
    let fs = c.args.s.now.0 in let ss = c.args.s.now.1 in
    let arcs = c.in_ok-arcs.arcs.items in
    let lists = c.deref-2.ensures.value in
    let roots = c.as_slice.ensures.value ∙ fresh true _ _ _ _ c.new-roots.ensures.items c.new-roots.ensures.len c.in_ok-resize.ensures.items in
    let edges : c.as_slice-2.result.now ≡ edges_of c.deref-3.result.now arcs (length arcs) = c.as_slice-2.ensures.value ∙ c.in_ok-edges.ensures {u = tt} ∙ ap (λ (xs : List (List Arc)). edges_of c.deref-3.result.now xs (length xs)) lists in
    let n = ap length roots ∙ long c.len-2.result true ∙ c.len-2.ensures ∙ c.in_ok-arcs.arcs.ok.0 in
    record { edges = subst (AreEdges (length c.as_slice.result.now)) (sym edges) (are_edges g p fs ss c.deref-3.result.now arcs c.in_ok-arcs.ensures.arcs (length c.as_slice.result.now) (length arcs) n c.in_ok-arcs.ensures.count) }

pub returns : goal.returns
returns c =
    let g = site_graph c.args.g.now in let p = labels c.args.p.now in
    let fs = c.args.s.now.0 in let ss = c.args.s.now.1 in
    let arcs = c.in_ok-arcs.arcs.items in
    let lists = c.deref-2.ensures.value in
    let edges : c.as_slice-2.result.now ≡ edges_of c.deref-3.result.now arcs (length arcs) = c.as_slice-2.ensures.value ∙ c.in_ok-edges.ensures {u = tt} ∙ ap (λ (xs : List (List Arc)). edges_of c.deref-3.result.now xs (length xs)) lists in
    let k = length c.as_slice.result.now in
    let root = IsRootIn c.as_slice.result.now in
    let marks = c.in_ok-marks.marks.items in
    let comps : AreComponents k (edges_of c.deref-3.result.now arcs (length arcs)) root marks = subst (λ (es : List Edge). AreComponents k es root marks) edges (c.in_ok-marks.ensures {u = tt}) in
    shown g p fs ss c.deref-3.result.now arcs c.in_ok-arcs.ensures.arcs k (length arcs) root marks (sites_rise c.args.g.now c.args.s.now c.requires.set) (set_has c.args.g.now c.args.s.now c.requires.set) comps
