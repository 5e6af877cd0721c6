use Rattle.std.proofs.Common.{length, get_or, arith}
use Rattle.std.proofs.lemmas.List.{length-set}
use Rattle.oi_base.specs.declared.ids.FuncId.{FuncId}
use Rattle.component_split.proofs.Choosing.{cleared, below_all}
use Rattle.component_split.proofs.choice.clear.Goals as goal

pub index_mut-requires : goal.index_mut-requires
index_mut-requires c =
    let d : FuncId = record { 0 = 0 } in
    let a = below_all (length c.args.degrees.now.items) c.args.funcs.now c.loop-f.f-index d c.requires c.loop-f-test.true in
    let n = c.loop-f.invariant.room in let v = c.loop-f.degrees.ok.0 in omega (arith, a, n, v)

pub loop-f-preserved : goal.loop-f-preserved
loop-f-preserved c =
    let d : FuncId = record { 0 = 0 } in
    let ds = c.loop-f.degrees.items in
    let a = below_all (length c.args.degrees.now.items) c.args.funcs.now c.loop-f.f-index d c.requires c.loop-f-test.true in
    let n = c.loop-f.invariant.room in
    record {
      zero = cleared ds c.args.funcs.now c.loop-f.f-index d c.loop-f-test.true (omega (arith, a, n)) c.loop-f.invariant.zero;
      room = let s = length-set ds (get_or c.args.funcs.now c.loop-f.f-index d).0 0 in omega (arith, s, n);
    }
