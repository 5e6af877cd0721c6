use Rattle.std.proofs.Common.{sym, ◌∙◌}
use Rattle.std.proofs.lemmas.Slice.Zip.{firsts-zip}
use Rattle.decisions.proofs.Lookups.{seconds-zip}
use Rattle.decisions.proofs.maps.Decisions.labels.Goals as goal

pub returns-clause-all : goal.returns-clause-all
returns-clause-all c = rw (← c.self.view_is) (c.deref.ensures.value ∙ sym (seconds-zip _ _ c.self.invariant.one_each))

pub returns-clause-one_each : goal.returns-clause-one_each
returns-clause-one_each c = rw (← c.self.view_is, c.deref.ensures.value, firsts-zip _ _ c.self.invariant.one_each) c.self.invariant.one_each
