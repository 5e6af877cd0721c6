use Rattle.std.proofs.Common.{◌≡◌, ℕ, take, length}
use Rattle.flow_fold.specs.Merges.{count_in, edge_count}
use Rattle.flow_fold.proofs.counts.edge_counts.Given as goal

abbrev pub invariant-loop-at : goal.invariant-loop-at
invariant-loop-at l = record {
  long : length l.counts ≡ length l.blocks;
  counts : (t : ℕ) → count_in l.counts t ≡ edge_count t (take l.at l.blocks);
}
