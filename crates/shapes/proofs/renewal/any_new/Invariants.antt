use Rattle.std.proofs.Common.{◌≡◌, drop, length}
use Rattle.shapes.specs.Tree.{callees}
use Rattle.shapes.specs.Renewed.{any_new, AreWithin}
use Rattle.shapes.proofs.renewal.any_new.Given as goal

abbrev pub invariant-loop-entry : goal.invariant-loop-entry
invariant-loop-entry l =
    (any_new l.renewals (callees (drop l.entry-index l.inlined)) ≡ any_new l.renewals (callees l.inlined))
    × AreWithin (length l.renewals) (callees (drop l.entry-index l.inlined))
