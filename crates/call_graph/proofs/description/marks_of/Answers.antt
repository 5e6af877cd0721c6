use Rattle.std.proofs.Common.{List, Bool, length, sym, ap, ◌∙◌, subst}
use Rattle.std.specs.Prelude.{IfOk}
use Rattle.strong_components.specs.declared.edge.Edge.{Edge}
use Rattle.strong_components.specs.Chains.{IsRootIn}
use Rattle.strong_components.specs.Walk.{AreEdges, AreComponents}
use Rattle.call_graph.specs.Edges.{edges_of, are_external}
use Rattle.call_graph.proofs.AllSites.{sites_are_edges}
use Rattle.call_graph.proofs.Nodes.{as_many}
use Rattle.call_graph.proofs.description.marks_of.Goals as goal

pub components-requires : goal.components-requires
components-requires c =
    let funcs = c.args.funcs.now in
    let roots = c.as_slice.ensures.value ∙ c.in_ok-roots.ensures {u = tt} in
    let edges = c.as_slice-2.ensures.value ∙ c.in_ok-edges.ensures {u = tt} ∙ ap edges_of c.requires in
    record { edges = subst (AreEdges (length c.as_slice.result.now)) (sym edges) (sites_are_edges funcs (length c.as_slice.result.now) (ap length roots ∙ as_many funcs)) }

pub returns : goal.returns
returns c =
    let roots = c.as_slice.ensures.value ∙ c.in_ok-roots.ensures {u = tt} in
    let edges = c.as_slice-2.ensures.value ∙ c.in_ok-edges.ensures {u = tt} in
    subst (λ (rs : List Bool). IfOk c.components.result (λ marks. AreComponents (length rs) (edges_of c.args.sites.now) (IsRootIn rs) marks.items)) roots
    (subst (λ (es : List Edge). IfOk c.components.result (λ marks. AreComponents (length c.as_slice.result.now) es (IsRootIn c.as_slice.result.now) marks.items)) edges c.components.ensures)
