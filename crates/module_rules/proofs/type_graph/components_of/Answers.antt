use Rattle.std.proofs.Common.{List, Bool, true, replicate, length, sym, ap, ◌∙◌, subst}
use Rattle.std.specs.Prelude.{IfOk}
use Rattle.strong_components.specs.declared.edge.Edge.{Edge}
use Rattle.strong_components.specs.Chains.{IsRootIn}
use Rattle.strong_components.specs.Walk.{AreEdges, AreComponents}
use Rattle.strong_components.proofs.Walked.{fresh, long}
use Rattle.module_rules.specs.Cycles.{edges_of}
use Rattle.module_rules.proofs.TypeGraph.{are_edges}
use Rattle.module_rules.proofs.type_graph.components_of.Goals as goal

pub components-requires : goal.components-requires
components-requires c =
    let m = c.args.m.now in
    let roots = c.as_slice.ensures.value ∙ fresh true _ _ _ _ c.new-roots.ensures.items c.new-roots.ensures.len c.in_ok-resize.ensures.items ∙ ap (λ k. replicate k true) c.len.ensures in
    let edges = c.as_slice-2.ensures.value ∙ c.in_ok-edges.ensures {u = tt} in
    record { edges = subst (AreEdges (length c.as_slice.result.now)) (sym edges) (are_edges m c.requires (length c.as_slice.result.now) (ap length roots ∙ long (length m.types.names) true)) }

pub returns : goal.returns
returns c =
    let n = length c.args.m.now.types.names in
    let roots = c.as_slice.ensures.value ∙ fresh true _ _ _ _ c.new-roots.ensures.items c.new-roots.ensures.len c.in_ok-resize.ensures.items ∙ ap (λ k. replicate k true) c.len.ensures in
    let edges = c.as_slice-2.ensures.value ∙ c.in_ok-edges.ensures {u = tt} in
    subst (λ k. IfOk c.components.result (λ marks. AreComponents k (edges_of c.args.m.now.types.defs n) (IsRootIn (replicate n true)) marks.items)) (long n true)
    (subst (λ (rs : List Bool). IfOk c.components.result (λ marks. AreComponents (length rs) (edges_of c.args.m.now.types.defs n) (IsRootIn rs) marks.items)) roots
    (subst (λ (es : List Edge). IfOk c.components.result (λ marks. AreComponents (length c.as_slice.result.now) es (IsRootIn c.as_slice.result.now) marks.items)) edges c.components.ensures))
