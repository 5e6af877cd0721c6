use Rattle.std.proofs.Common.{◌<◌, length, get_or, false, arith}
use Rattle.std.proofs.lemmas.Option.{slice_get-get_or}
use Rattle.call_graph.specs.declared.facts.FuncFacts.{FuncFacts}
use Rattle.shapes.proofs.Starts.{count_step, table_step}
use Rattle.shapes.proofs.forest.bare_shapes.Goals as goal

abbrev default : FuncFacts
default = record { external = false; reached = false }

pub returns-in_err-bare_shape-clause-no_more : goal.returns-in_err-bare_shape-clause-no_more
returns-in_err-bare_shape-clause-no_more g c =
    let lt : c.loop-f.f < length c.args.g.now.funcs = omega arith in
    let ticks = c.in_err-bare_shape.ensures.ticks (get_or c.args.g.now.funcs c.loop-f.f default) (slice_get-get_or c.args.g.now.funcs c.loop-f.f default lt) in
    omega (arith, ticks, c.loop-f.invariant.1)

pub returns-in_err-push-clause-no_more : goal.returns-in_err-push-clause-no_more
returns-in_err-push-clause-no_more g c =
    let lt : c.loop-f.f < length c.args.g.now.funcs = omega arith in
    let ticks = c.in_ok-bare_shape.ensures.ticks (get_or c.args.g.now.funcs c.loop-f.f default) (slice_get-get_or c.args.g.now.funcs c.loop-f.f default lt) in
    let step = count_step c.args.g.now.funcs c.loop-f.f default lt c.loop-f.made c.args.made.now c.bare_shape.new.made c.loop-f.invariant.1 ticks in
    omega (arith, step)

pub loop-f-preserved : goal.loop-f-preserved
loop-f-preserved g c =
    let lt : c.loop-f.f < length c.args.g.now.funcs = omega arith in
    let is = slice_get-get_or c.args.g.now.funcs c.loop-f.f default lt in
    let h = get_or c.args.g.now.funcs c.loop-f.f default in (
      rw c.in_ok-push.ensures.items (table_step c.args.m.now c.loop-f.table.items c.in_ok-bare_shape.field-0 c.args.g.now.funcs c.loop-f.f default lt _ c.loop-f.invariant.0 (c.in_ok-bare_shape.ensures.shape h is)),
      count_step c.args.g.now.funcs c.loop-f.f default lt c.loop-f.made c.args.made.now c.bare_shape.new.made c.loop-f.invariant.1 (c.in_ok-bare_shape.ensures.ticks h is),
    )
