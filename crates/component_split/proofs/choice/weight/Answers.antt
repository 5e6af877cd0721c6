use Rattle.std.proofs.Common.{◌+◌, ap, ap₂, arith}
use Rattle.std.specs.Prelude.{slice_index}
use Rattle.component_split.proofs.choice.weight.Goals as goal

pub overflow_add-result : goal.overflow_add-result
overflow_add-result c =
    let x = ap (slice_index c.args.degrees.now) c.ends_of-ends.ensures.caller in
    let y = ap (slice_index c.args.degrees.now) c.ends_of-ends.ensures.callee in
    let a = c.requires.few_at_caller in let b = c.requires.few_at_callee in
    omega (arith, x, y, a, b)

pub returns : goal.returns
returns c = ap₂ (λ m n. m + n) (ap (slice_index c.args.degrees.now) c.ends_of-ends.ensures.caller) (ap (slice_index c.args.degrees.now) c.ends_of-ends.ensures.callee)
