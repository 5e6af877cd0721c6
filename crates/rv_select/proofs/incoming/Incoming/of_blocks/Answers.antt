use Rattle.std.proofs.Common.{◌≡◌, ◌∙◌, length, nat_lt, if◌then◌else◌, None, slice_get, ap, arith}
use Rattle.rv_select.specs.Lowered.{phis_of}
use Rattle.rv_select.specs.Incoming.{value_at, value_for}
use Rattle.rv_select.proofs.PhiValues.{next_block, all_blocks}
use Rattle.rv_select.proofs.incoming.Incoming.of_blocks.Goals as goal

pub loop-to-preserved : goal.loop-to-preserved
loop-to-preserved c = λ b p n. next_block c.args.blocks.now c.loop-to.to b p n c.index-blocks-to.result c.as_slice.result.now (value_at c.loop-to.incoming b p n) (value_at c.add_phis.new.self b p n) c.loop-to-test.true c.index-blocks-to.is c.as_slice.ensures (c.loop-to.invariant b p n) (c.in_ok-add_phis.ensures b p n)

pub returns : goal.returns
returns c = λ b p n. let end : c.loop-to.to ≡ length c.args.blocks.now = omega arith in
    c.loop-to.invariant b p n ∙ ap (λ k. if nat_lt b k then value_for n (slice_get (phis_of (slice_get c.args.blocks.now b)) p) else None) end ∙ all_blocks c.args.blocks.now b p n
