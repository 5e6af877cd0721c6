use Rattle.std.proofs.Common.{◌≡◌, ◌≤◌, ◌<◌, ℕ, length, take, Some, slice_get}
use Rattle.strong_components.specs.Walk.{state}
use Rattle.strong_components.proofs.walk.Walk.join.Given as goal

abbrev pub invariant-loop-base : goal.invariant-loop-base
invariant-loop-base l = record {
  most : length l.self.bases.items ≤ length l.initial.self.bases.items;
  front : l.self.bases.items ≡ take (length l.self.bases.items) l.initial.self.bases.items;
  above : (i b : ℕ) → length l.self.bases.items ≤ i → slice_get l.initial.self.bases.items i ≡ Some b → l.at < b;
  same : state l.self ≡ record (state l.initial.self) { bases = l.self.bases.items };
}

abbrev pub decreases-loop-base : goal.decreases-loop-base
decreases-loop-base l = length l.self.bases.items
