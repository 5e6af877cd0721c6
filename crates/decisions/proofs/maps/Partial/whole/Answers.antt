use Rattle.std.proofs.Common.{◌∙◌, ap, List, Option}
use Rattle.std.specs.Prelude.{zip}
use Rattle.decisions.specs.declared.maps.Label.{Label}
use Rattle.decisions.proofs.Lookups.{decided-zip, all_seconds}
use Rattle.decisions.proofs.maps.Partial.whole.Goals as goal

pub decided_labels-requires : goal.decided_labels-requires
decided_labels-requires c = rw c.deref-2.ensures.value (all_seconds _ _ c.self.invariant.one_each (rw (← c.self.view_is) at c.requires))

pub returns : goal.returns
returns c =
    rw (c.in_ok-sites.ensures.items, c.deref.ensures.value)
    (decided-zip c.self.inside.sites.items c.in_ok-labels.labels.items ∙ ap (λ (labels : List (Option Label)). zip c.self.inside.sites.items labels) (c.in_ok-labels.ensures ∙ c.deref-2.ensures.value) ∙ c.self.view_is)
