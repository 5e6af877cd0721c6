use Rattle.std.proofs.Common.{◌≡◌, ℕ, ◌==◌, nat_lt, if◌then◌else◌, None, slice_get}
use Rattle.rv_select.specs.Incoming.{value_at, value_for}
use Rattle.rv_select.proofs.incoming.Incoming.add_phis.Given as goal

abbrev pub invariant-loop-position : goal.invariant-loop-position
invariant-loop-position l = (b p n : ℕ) → value_at l.self b p n ≡ (if l.to == b then (if nat_lt p l.position then value_for n (slice_get l.phis p) else None) else value_at l.fn.self b p n)
