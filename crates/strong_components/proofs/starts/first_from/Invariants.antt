use Rattle.std.proofs.Common.{◌≡◌, ◌<◌, ◌≤◌, ◌-◌, ℕ, length, Some, slice_get}
use Rattle.strong_components.specs.declared.edge.Edge.{Edge}
use Rattle.strong_components.proofs.starts.first_from.Given as goal

abbrev pub invariant-loop-at : goal.invariant-loop-at
invariant-loop-at l = record {
  within : l.at ≤ length l.edges;
  from : l.from ≤ l.at;
  before : (k : ℕ) (s : Edge) → l.from ≤ k → k < l.at → slice_get l.edges k ≡ Some s → s.from < l.f;
}

abbrev pub decreases-loop-at : goal.decreases-loop-at
decreases-loop-at l = length l.edges - l.at
