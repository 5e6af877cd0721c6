use Rattle.std.proofs.Common.{◌≡◌, ◌+◌, nat_lt, drop}
use Rattle.std.specs.List.{prefix_len}
use Rattle.shapes.proofs.renewal.before.Given as goal

abbrev pub invariant-loop-i : goal.invariant-loop-i
invariant-loop-i l = l.i + prefix_len (λ e. nat_lt e.0.0 l.s.0) (drop l.i l.callees) ≡ prefix_len (λ e. nat_lt e.0.0 l.s.0) l.callees
