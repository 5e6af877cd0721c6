use Rattle.std.proofs.Common.{sym, ◌∙◌}
use Rattle.std.proofs.lemmas.Slice.Zip.{firsts-zip}
use Rattle.decisions.proofs.maps.Decisions.sites.Goals as goal

pub returns-clause-all : goal.returns-clause-all
returns-clause-all c = rw (← c.self.view_is) (c.deref.ensures.value ∙ sym (firsts-zip _ _ c.self.invariant.one_each))
