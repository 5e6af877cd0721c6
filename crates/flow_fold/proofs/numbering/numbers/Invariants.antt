use Rattle.std.proofs.Common.{◌≡◌, ℕ, ◌<◌, ◌≤◌, length, slice_index_or}
use Rattle.flow_fold.specs.Blocks.{number_of}
use Rattle.flow_fold.specs.Walks.{marked_in}
use Rattle.flow_fold.proofs.numbering.numbers.Given as goal

abbrev pub invariant-loop-mark : goal.invariant-loop-mark
invariant-loop-mark l = record {
  next : l.next ≡ number_of (marked_in l.marks) l.mark-index;
  few : l.next ≤ l.mark-index;
  long : length l.numbers.items ≡ l.mark-index;
  each : (b : ℕ) → b < l.mark-index → slice_index_or l.numbers.items b 0 ≡ number_of (marked_in l.marks) b;
}
