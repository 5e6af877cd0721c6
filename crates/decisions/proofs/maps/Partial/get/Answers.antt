use Rattle.std.proofs.Common.{Some, Option, sym, ap, ◌∙◌, arith}
use Rattle.decisions.specs.declared.maps.Label.{Label}
use Rattle.decisions.proofs.Lookups.{label_at, no_label}
use Rattle.decisions.proofs.maps.Partial.get.Goals as goal

pub returns-in-Some : goal.returns-in-Some
returns-in-Some c = rw (← c.self.view_is) (label_at _ _ _ _ c.index.result.now c.self.invariant.one_each (rw c.deref.ensures.value at c.in-Some.ensures.found) ∙ ap (λ (l : Option Label). Some l) (sym c.index.ensures))

-- a candidate has a place
pub returns-in-None : goal.returns-in-None
returns-in-None c =
    let none = no_label _ c.self.inside.labels.items _ (rw c.deref.ensures.value at c.in-None.ensures.absent) in
    grind (arith, none, c.self.view_is, c.requires)
