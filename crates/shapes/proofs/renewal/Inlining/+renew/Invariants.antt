use Rattle.std.proofs.Common.{drop}
use Rattle.shapes.specs.Tree.{callees}
use Rattle.shapes.proofs.Walks.{Walks}
use Rattle.shapes.proofs.renewal.Inlining.+renew.Given as goal

abbrev pub invariant-loop-entry : goal.invariant-loop-entry
invariant-loop-entry g l = Walks l.m l.self (callees l.inlined) (callees (drop l.entry-index l.inlined)) l.fn.renewals.items l.renewals.items l.fn.made l.made
