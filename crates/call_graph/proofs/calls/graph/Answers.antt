use Rattle.std.proofs.Common.{length, sym, ap, subst, ◌∙◌, arith}
use Rattle.ir_core.specs.Proper.{IsProper}
use Rattle.call_graph.specs.Graph.{Graph, IsGraph, candidates_from}
use Rattle.call_graph.proofs.Graphs.{few_sites_said, few_funcs_said}
use Rattle.call_graph.proofs.calls.graph.Goals as goal

pub candidates-requires : goal.candidates-requires
candidates-requires c =
    let g : Graph = record { funcs = c.in_ok-description.description.funcs.items; sites = c.in_ok-description.description.sites.items } in
    let few = few_sites_said c.module-module.result.now c.args.free g (subst IsProper (sym c.module-module.ensures.same) c.module-module.ensures.proper) (subst (λ fs. IsGraph fs c.args.free g) c.as_slice.ensures c.in_ok-description.ensures) in
    let e = ap length c.as_slice-2.ensures.value in
    omega (arith, few, e)

pub invariant_of-result : goal.invariant_of-result
invariant_of-result c =
    let g : Graph = record { funcs = c.in_ok-description.description.funcs.items; sites = c.in_ok-description.description.sites.items } in
    let proper = subst IsProper (sym c.module-module.ensures.same) c.module-module.ensures.proper in
    let is = subst (λ fs. IsGraph fs c.args.free g) c.as_slice.ensures c.in_ok-description.ensures in (
      c.in_ok-candidates.ensures ∙ ap (candidates_from 1) c.as_slice-2.ensures.value,
      few_funcs_said c.module-module.result.now c.args.free g proper is,
      few_sites_said c.module-module.result.now c.args.free g proper is,
    )
