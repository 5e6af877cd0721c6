use Rattle.std.proofs.Common.{ℕ, List, min, sum_by, sym, ap, ◌∙◌}
use Rattle.std.proofs.lemmas.List.{take_all}
use Rattle.ir_core.specs.declared.func.Block.{Block}
use Rattle.ir_core.specs.Instructions.{terminator}
use Rattle.shapes.specs.Weight.{gives_value}
use Rattle.shapes.proofs.Weights.{values_of_func}
use Rattle.shapes.proofs.weigh.value_returns.Goals as goal

pub returns : goal.returns
returns c = λ m.
    let all = take_all c.loop-block.block-index c.args.f.now.blocks (rw c.as_slice-block-items.ensures at c.loop-block-test.false) in
    c.loop-block.invariant m ∙ ap (λ (n : ℕ). min n 18446744073709551615) (ap (λ (bs : List Block). sum_by (λ (b : Block). gives_value (terminator m b.end)) bs) all ∙ sym (values_of_func m c.args.f.now))
