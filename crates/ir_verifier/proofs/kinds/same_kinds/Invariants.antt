use Rattle.std.proofs.Common.{◌≡◌, drop, length}
use Rattle.ir_verifier.specs.CallFaults.{same_kinds}
use Rattle.ir_verifier.proofs.kinds.same_kinds.Given as goal

abbrev pub invariant-loop-k : goal.invariant-loop-k
invariant-loop-k l = (length l.params ≡ length l.arguments) × (same_kinds (drop l.k l.params) (drop l.k l.arguments) ≡ same_kinds l.params l.arguments)
