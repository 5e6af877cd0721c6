use Rattle.std.proofs.Common.{arith}
use Rattle.shapes_tests.proofs.Labelled.{has_tree}
use Rattle.shapes_tests.proofs.forest_tests.spelled.Goals as goal

pub shape-requires : goal.shape-requires
shape-requires c =
    let f = c.loop-f.f in
    has_tree c.args.v.now c.args.g.now c.args.forest.now c.requires (record { 0 = f }) (let t = c.loop-f-test.true in let e = c.funcs-f-end.ensures in omega (arith, t, e)) c.reached.result c.reached.ensures c.if-reached.true
