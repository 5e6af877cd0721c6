use Rattle.image_tests.proofs.EachFunction.{AreFirst}
use Rattle.image_tests.proofs.codes.codes.Given as goal

abbrev pub invariant-loop-f : goal.invariant-loop-f
invariant-loop-f l = AreFirst l.f l.codes.items
