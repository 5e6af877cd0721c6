use Rattle.std.proofs.Common.{◌≡◌, ◌+◌, ◌++◌, drop}
use Rattle.shapes.specs.Standing.{values, reached_count}
use Rattle.shapes.specs.Starting.{bare_from}
use Rattle.shapes.proofs.forest.bare_shapes.Given as goal

abbrev pub invariant-loop-f : goal.invariant-loop-f
invariant-loop-f g l =
    (values l.table.items ++ bare_from l.m l.f (drop l.f l.g.funcs) ≡ bare_from l.m 0 l.g.funcs)
    × (l.made + reached_count (drop l.f l.g.funcs) ≡ l.fn.made + reached_count l.g.funcs)
