use Rattle.shapes.proofs.Weighed.{all_weighed}
use Rattle.shapes.proofs.shape.Shape.make.Goals as goal

pub of-requires : goal.of-requires
of-requires g c = rw c.module.ensures.same (all_weighed c.args.v.now c.args.g.now c.args.f _ c.requires.over)
