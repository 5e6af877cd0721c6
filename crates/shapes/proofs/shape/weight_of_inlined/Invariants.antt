use Rattle.std.proofs.Common.{◌≡◌, ◌+◌, drop}
use Rattle.shapes.specs.Tree.{callees}
use Rattle.shapes.specs.Weight.{callees_weight, kept, AreWeighed}
use Rattle.shapes.proofs.shape.weight_of_inlined.Given as goal

abbrev pub invariant-loop-entry : goal.invariant-loop-entry
invariant-loop-entry l =
    (kept (l.total + callees_weight l.m (callees (drop l.entry-index l.inlined))) ≡ kept (callees_weight l.m (callees l.inlined)))
    × AreWeighed l.m (callees (drop l.entry-index l.inlined))
