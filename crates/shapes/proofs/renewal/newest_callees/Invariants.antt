use Rattle.std.proofs.Common.{◌≡◌, drop, length}
use Rattle.shapes.specs.Tree.{callees}
use Rattle.shapes.specs.Renewed.{all_newest, AreWithin}
use Rattle.shapes.proofs.Renewals.{followed}
use Rattle.shapes.proofs.renewal.newest_callees.Given as goal

abbrev pub invariant-loop-entry : goal.invariant-loop-entry
invariant-loop-entry l =
    (followed l.all.items (all_newest l.renewals (callees (drop l.entry-index l.inlined))) ≡ all_newest l.renewals (callees l.inlined))
    × AreWithin (length l.renewals) (callees (drop l.entry-index l.inlined))
