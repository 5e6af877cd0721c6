use Rattle.std.proofs.Common.{◌≡◌, ◌<◌, ℕ, Some}
use Rattle.ir_core.specs.declared.op.LocalId.{LocalId}
use Rattle.ir_assigned.specs.Names.{found, IsWriter}
use Rattle.ir_assigned.proofs.tests.writes_own.Given as goal

abbrev pub invariant-loop-at : goal.invariant-loop-at
invariant-loop-at l = (at : ℕ) (x : LocalId) → at < l.at → IsWriter l.block at x → found l.definitions x.0 ≡ Some (record { block = l.b; at = at })
