use Rattle.std.proofs.Common.{ℕ, Some, get_or, sym, ap, ◌∙◌}
use Rattle.std.specs.Prelude.{is_none, Option}
use Rattle.oi_base.specs.declared.ids.SiteId.{SiteId}
use Rattle.decisions.specs.declared.maps.Label.{Label}
use Rattle.decisions.proofs.LineSplits.{position_some, position_none, position_lt}
use Rattle.decisions.proofs.UndecidedSites.{found, not_found, all_decided}
use Rattle.decisions.proofs.maps.Partial.undecided.Goals as goal

pub returns-in-Some-clause-first : goal.returns-in-Some-clause-first
returns-in-Some-clause-first c =
    let test = λ (l : Option Label). is_none l in
    let is = rw c.deref.ensures.value at (sym c.in-Some.is ∙ c.first_none.ensures) in
    let place = position_some test c.self.inside.labels.items c.in-Some.at is in
    let lt = position_lt test c.self.inside.labels.items c.in-Some.at is in
    rw (← c.self.view_is) (ap (λ (s : SiteId). Some s) (c.index.ensures ∙ ap (λ (n : ℕ). get_or c.self.inside.sites.items n c.index.result.now) place) ∙ sym (found _ _ c.index.result.now c.self.invariant.one_each (rw place at lt)))

pub returns-in-None-clause-first : goal.returns-in-None-clause-first
returns-in-None-clause-first c =
    let is = rw c.deref.ensures.value at (sym c.in-None.is ∙ c.first_none.ensures) in
    rw (← c.self.view_is) (sym (not_found _ _ (position_none (λ (l : Option Label). is_none l) c.self.inside.labels.items is)))

pub returns-in-None-clause-all_decided : goal.returns-in-None-clause-all_decided
returns-in-None-clause-all_decided c =
    let is = rw c.deref.ensures.value at (sym c.in-None.is ∙ c.first_none.ensures) in
    rw (← c.self.view_is) (all_decided _ (sym (not_found c.self.inside.sites.items _ (position_none (λ (l : Option Label). is_none l) c.self.inside.labels.items is))))
