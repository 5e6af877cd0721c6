use Rattle.std.proofs.Common.{◌≡◌, replicate}
use Rattle.shapes.specs.declared.renewal.Renewal.TheVariants.{Unseen}
use Rattle.shapes.proofs.renewal.unseen.Given as goal

abbrev pub invariant-loop-n : goal.invariant-loop-n
invariant-loop-n l = l.renewals.items ≡ replicate l.n Unseen
