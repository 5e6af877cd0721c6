use Rattle.shapes.specs.Standing.{IsForest}
use Rattle.shapes_tests.proofs.forest_tests.told_over.Given as goal

abbrev pub invariant-loop-decision : goal.invariant-loop-decision
invariant-loop-decision g l = IsForest l.v l.g l.forest
