use Rattle.function_removal.proofs.Calls.{NoneUpTo}
use Rattle.function_removal.proofs.removal.has_kept_call.Given as goal

abbrev pub invariant-loop-n : goal.invariant-loop-n
invariant-loop-n l = NoneUpTo l.g l.d l.f l.n
