use Rattle.std.proofs.Common.{Some, sym, ap, ◌∙◌}
use Rattle.decisions.specs.declared.maps.Label.{Label}
use Rattle.decisions.proofs.Lookups.{label_at, no_label}
use Rattle.decisions.proofs.maps.Decisions.label.Goals as goal

pub returns-in-Some : goal.returns-in-Some
returns-in-Some c = rw (← c.self.view_is) (ap (λ (l : Label). Some l) c.index.ensures ∙ sym (label_at _ _ _ _ c.index.result.now c.self.invariant.one_each (rw c.deref.ensures.value at c.in-Some.ensures.found)))

pub returns-in-None : goal.returns-in-None
returns-in-None c = rw (← c.self.view_is) (sym (no_label _ _ _ (rw c.deref.ensures.value at c.in-None.ensures.absent)))
