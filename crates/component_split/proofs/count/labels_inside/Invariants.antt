use Rattle.component_split.proofs.Held.{Copied}
use Rattle.component_split.proofs.count.labels_inside.Given as goal

abbrev pub invariant-loop-site : goal.invariant-loop-site
invariant-loop-site l = Copied l.set.1 l.partial l.inside l.site-index
