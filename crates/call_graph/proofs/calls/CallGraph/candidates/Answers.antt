use Rattle.std.proofs.Common.{Contains, ◌↔◌, sym, ap, subst, ◌∙◌}
use Rattle.oi_base.specs.Ascending.{IsAscending}
use Rattle.call_graph.specs.Graph.{IsCandidateOf, candidate_ids}
use Rattle.call_graph.proofs.Candidates.{ascending, exactly}
use Rattle.call_graph.proofs.calls.CallGraph.candidates.Goals as goal

pub returns-clause-ascending : goal.returns-clause-ascending
returns-clause-ascending c =
    let same = c.as_slice.ensures.value ∙ c.self.invariant.0 ∙ ap candidate_ids c.self.view_is in
    subst IsAscending (sym same) (ascending c.args.self.now)

pub returns-clause-exactly : goal.returns-clause-exactly
returns-clause-exactly c =
    let same = c.as_slice.ensures.value ∙ c.self.invariant.0 ∙ ap candidate_ids c.self.view_is in
    λ s. subst (λ ids. Contains ids s ↔ IsCandidateOf c.args.self.now s) (sym same) (exactly c.args.self.now s)
