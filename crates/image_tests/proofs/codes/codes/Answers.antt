use Rattle.std.proofs.Common.{◌≡◌, ℕ, length, ap, subst, arith}
use Rattle.ir_core.specs.declared.module.Module.{Module}
use Rattle.image_tests.proofs.EachFunction.{AreFirst, all_coded}
use Rattle.image_tests.proofs.codes.codes.Goals as goal

pub returns : goal.returns
returns c =
    let m = c.args.v.now in
    let funcs = ap (λ (x : Module). length x.funcs) c.module.ensures.same in
    let all : c.loop-f.f ≡ length m.funcs = omega (arith, funcs, c.len-f-end.ensures, c.loop-f-test.false, c.loop-f.auto.f-end) in
    all_coded m c.loop-f.codes.items c.module.ensures.valid (subst (λ (n : ℕ). AreFirst n c.loop-f.codes.items) all c.loop-f.invariant)
