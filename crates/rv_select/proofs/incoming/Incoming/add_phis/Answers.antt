use Rattle.std.proofs.Common.{◌≡◌, ◌∙◌, length, nat_lt, ◌==◌, if◌then◌else◌, None, slice_get, ap, arith}
use Rattle.rv_select.specs.Incoming.{value_at, value_for}
use Rattle.rv_select.proofs.PhiValues.{next_phi, all_phis}
use Rattle.rv_select.proofs.incoming.Incoming.add_phis.Goals as goal

pub loop-position-preserved : goal.loop-position-preserved
loop-position-preserved c = λ b p n. next_phi c.args.phis.now (c.args.to == b) c.loop-position.position p n c.index-phis-position.result c.as_slice.result.now (value_at c.args.self.now b p n) (value_at c.loop-position.self b p n) (value_at c.add_entries.new.self b p n) c.loop-position-test.true c.index-phis-position.is c.as_slice.ensures (c.loop-position.invariant b p n) (c.in_ok-add_entries.ensures b p n)

pub returns : goal.returns
returns c = λ b p n. let end : c.loop-position.position ≡ length c.args.phis.now = omega arith in
    c.loop-position.invariant b p n
    ∙ ap (λ k. if c.args.to == b then (if nat_lt p k then value_for n (slice_get c.args.phis.now p) else None) else value_at c.args.self.now b p n) end
    ∙ ap (λ o. if c.args.to == b then o else value_at c.args.self.now b p n) (all_phis c.args.phis.now p n)
