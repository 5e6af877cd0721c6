use Rattle.shapes.proofs.Starts.{starts}
use Rattle.shapes.proofs.forest.Forest.start.Goals as goal

pub returns-clause-forest : goal.returns-clause-forest
returns-clause-forest g c =
    rw (c.in_ok-table.ensures.ok, c.in_ok-bare_shapes.ensures.shapes, c.module.ensures.same, c.in_ok-partial.ensures, c.candidates.ensures.value) (starts c.args.v.now c.args.g.now)
