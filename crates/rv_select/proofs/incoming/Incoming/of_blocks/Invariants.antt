use Rattle.std.proofs.Common.{◌≡◌, ℕ, nat_lt, if◌then◌else◌, None, slice_get}
use Rattle.rv_select.specs.Lowered.{phis_of}
use Rattle.rv_select.specs.Incoming.{value_at, value_for}
use Rattle.rv_select.proofs.incoming.Incoming.of_blocks.Given as goal

abbrev pub invariant-loop-to : goal.invariant-loop-to
invariant-loop-to l = (b p n : ℕ) → value_at l.incoming b p n ≡ (if nat_lt b l.to then value_for n (slice_get (phis_of (slice_get l.blocks b)) p) else None)
