use Rattle.std.proofs.Common.{length, subst, ◌∙◌}
use Rattle.strong_components.specs.Chains.{IsRootIn}
use Rattle.strong_components.specs.Walk.{AreComponents}
use Rattle.call_graph.specs.Edges.{edges_of, are_external}
use Rattle.call_graph.proofs.Graphs.{whole_graph}
use Rattle.call_graph.proofs.description.describe.Goals as goal

pub returns : goal.returns
returns c =
    let funcs = c.args.funcs.now in
    let comps = subst (λ x. AreComponents (length (are_external funcs)) (edges_of x) (IsRootIn (are_external funcs)) c.in_ok-marks.marks.items) (c.as_slice.ensures.value ∙ c.in_ok-sites.ensures) c.in_ok-marks.ensures in
    whole_graph c.args.free funcs c.as_slice-4.result.now c.in_ok-marks.marks.items c.as_slice-3.result.now c.as_slice-2.result.now _ _
    (c.as_slice-4.ensures.value ∙ c.in_ok-sites.ensures) c.as_slice-3.ensures.value c.as_slice-2.ensures.value comps c.in_ok-func_facts.ensures c.in_ok-site_facts.ensures
