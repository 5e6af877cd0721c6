use Rattle.std.proofs.Common.{◌≡◌, ℕ, ◌&&◌, ◌==◌, if◌then◌else◌, drop}
use Rattle.ir_core.specs.Flat.{entry_for}
use Rattle.rv_select.specs.Incoming.{value_at}
use Rattle.rv_select.proofs.incoming.Incoming.add_entries.Given as goal

abbrev pub invariant-loop-i : goal.invariant-loop-i
invariant-loop-i l = (b p n : ℕ) → value_at l.self b p n ≡ (if l.to == b && l.position == p then entry_for n (drop l.i l.entries) else value_at l.fn.self b p n)
