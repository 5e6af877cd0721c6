use Rattle.std.proofs.Common.{ℕ, List, min, sum_by, sym, ap, ◌∙◌}
use Rattle.std.proofs.lemmas.List.{take_all}
use Rattle.ir_core.specs.declared.func.Block.{Block}
use Rattle.shapes.specs.SourceWeight.{code_weight}
use Rattle.shapes.proofs.Weights.{of_func}
use Rattle.shapes.proofs.weigh.weight_of_func.Goals as goal

pub returns : goal.returns
returns c = λ m.
    let all = take_all c.loop-block.block-index c.args.f.now.blocks (rw c.as_slice-block-items.ensures at c.loop-block-test.false) in
    c.loop-block.invariant m ∙ ap (λ (n : ℕ). min n 18446744073709551615) (ap (λ (bs : List Block). sum_by (code_weight m) bs) all ∙ sym (of_func m c.args.f.now))
