use Rattle.std.proofs.Common.{◌≡◌, ℕ, ◌+◌, ◌-◌, take, length}
use Rattle.ir_core.specs.Formed.{targets}
use Rattle.flow_fold.specs.Merges.{count, count_in}
use Rattle.flow_fold.proofs.counts.add_targets.Given as goal

abbrev pub invariant-loop-b : goal.invariant-loop-b
invariant-loop-b l = record {
  long : length l.counts ≡ length l.initial.counts;
  counts : (t : ℕ) → count_in l.counts t ≡ count_in l.initial.counts t + count t (take l.at (targets l.end));
}

abbrev pub decreases-loop-b : goal.decreases-loop-b
decreases-loop-b l = length (targets l.end) - l.at
