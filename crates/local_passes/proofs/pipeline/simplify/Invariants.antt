use Rattle.std.proofs.Common.{◌≡◌}
use Rattle.std.specs.Fn.{iterate}
use Rattle.local_passes.specs.Simplify.{one_round}
use Rattle.local_passes.proofs.pipeline.simplify.Given as goal

abbrev pub invariant-loop-round : goal.invariant-loop-round
invariant-loop-round l = l.body ≡ iterate one_round l._round l.fn.b
