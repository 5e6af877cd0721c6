use Rattle.std.proofs.Common.{◌≡◌, ◌<◌, ◌≤◌, ℕ, length, Some, slice_get}
use Rattle.strong_components.specs.declared.edge.Edge.{Edge}
use Rattle.strong_components.specs.Walk.{AreStarts}
use Rattle.strong_components.proofs.starts.starts_of.Given as goal

abbrev pub invariant-loop-f : goal.invariant-loop-f
invariant-loop-f l = record {
  so_far : AreStarts l.f l.edges l.starts.items;
  within : l.at ≤ length l.edges;
  before : (k : ℕ) (s : Edge) → k < l.at → slice_get l.edges k ≡ Some s → s.from < l.f;
}
