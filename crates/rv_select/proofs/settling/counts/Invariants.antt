use Rattle.std.proofs.Common.{◌≡◌, ◌+◌, ◌≤◌, ℕ, take, length, get_or}
use Rattle.rv_select.specs.Branches.{count_true}
use Rattle.rv_select.proofs.settling.counts.Given as goal

abbrev pub invariant-loop-bit : goal.invariant-loop-bit
invariant-loop-bit l = record {
  count : l.count ≡ count_true (take l.bit-index l.bits);
  len : length l.counts.items ≡ l.bit-index + 1;
  each : (k : ℕ) → k ≤ l.bit-index → get_or l.counts.items k 0 ≡ count_true (take k l.bits);
}
