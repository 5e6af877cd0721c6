use Rattle.decisions.specs.Maps.{label_of}
use Rattle.decisions.proofs.Lookups.{sets_only, no_label, some_is_some}
use Rattle.decisions.proofs.maps.Partial.set.Goals as goal

pub returns-in-Some : goal.returns-in-Some
returns-in-Some c = rw (← c.self.view_is) (sets_only _ _ _ _ _ c.self.invariant.one_each (rw c.deref.ensures.value at c.in-Some.ensures.found))

-- a candidate has a place
pub returns-in_default : goal.returns-in_default
returns-in_default c =
    let none = no_label c.self.inside.sites.items c.self.inside.labels.items c.args.s (rw c.deref.ensures.value at c.in_default.ensures.absent) in
    absurd (some_is_some (label_of c.args.self.now c.args.s) c.requires (rw c.self.view_is at none))
