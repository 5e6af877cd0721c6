use Rattle.std.proofs.Common.{◌≡◌, List, Option, ap, ◌∙◌}
use Rattle.oi_base.specs.declared.ids.SiteId.{SiteId}
use Rattle.call_graph.specs.Graph.{candidate_ids}
use Rattle.decisions.specs.declared.maps.Label.{Label}
use Rattle.decisions.specs.Maps.{sites_of, undecided}
use Rattle.component_split.proofs.Trees.{undecided_sites}
use Rattle.component_split.proofs.Held.{all_held}
use Rattle.component_split_tests.proofs.component_tests.undecided.Goals as goal

pub returns : goal.returns
returns c =
    let all = ap (λ (p : List (SiteId × Option Label)). sites_of p) (c.in_ok-partial.ensures {u = tt} ∙ ap (λ (ids : List SiteId). undecided {L = Label} ids) c.candidates.ensures.value) ∙ undecided_sites (candidate_ids c.args.g.now) in
    all_held c.args.g.now c.args.set.now c.in_ok-partial.partial all
