use Rattle.std.proofs.Common.{subst, IfOk}
use Rattle.shapes.specs.Standing.{IsForest}
use Rattle.shapes_tests.proofs.forest_tests.decided.Goals as goal

pub returns-in_ok-keep : goal.returns-in_ok-keep
returns-in_ok-keep g c = subst (λ r. IfOk r (IsForest c.args.v.now c.args.g.now)) c.in_ok-keep.was (c.keep.ensures.forest c.args.v.now c.args.g.now c.requires.forest)
