use Rattle.std.proofs.Common.{◌≡◌, map, take, Some}
use Rattle.decisions.proofs.maps.decided_labels.Given as goal

abbrev pub invariant-loop-label : goal.invariant-loop-label
invariant-loop-label l = map (λ x. Some x) l.all.items ≡ take l.label-index l.labels
