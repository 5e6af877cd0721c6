use Rattle.std.proofs.Common.{◌≡◌, ℕ, [], length, slice_index_or}
use Rattle.local_passes.proofs.use_table.UseTable.new.Given as goal

abbrev pub invariant-loop-r : goal.invariant-loop-r
invariant-loop-r l = (length l.uses.items ≡ l._r) × ((q : ℕ) → slice_index_or l.uses.items q [] ≡ [])
