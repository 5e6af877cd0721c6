use Rattle.std.proofs.Common.{◌≡◌, ℕ, ◌<◌, length, Contains}
use Rattle.flow_fold.specs.declared.merger.Merge.{Merge}
use Rattle.flow_fold.specs.Merges.{name_in, names}
use Rattle.flow_fold.proofs.renaming.names.Given as goal

abbrev pub invariant-loop-merge : goal.invariant-loop-merge
invariant-loop-merge l = record {
  long : length l.names.items ≡ l.size;
  within : (x : Merge) → Contains l.left x → x.from.0 < l.size;
  names : (b : ℕ) → name_in l.names.items (names l.left b) ≡ names l.fn.merges b;
}

abbrev pub decreases-loop-merge : goal.decreases-loop-merge
decreases-loop-merge l = length l.left
