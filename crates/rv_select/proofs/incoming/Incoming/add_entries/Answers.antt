use Rattle.std.proofs.Common.{◌&&◌, ◌==◌}
use Rattle.rv_select.specs.Incoming.{value_at}
use Rattle.rv_select.proofs.PhiValues.{next_entry}
use Rattle.rv_select.proofs.incoming.Incoming.add_entries.Goals as goal

pub loop-i-preserved : goal.loop-i-preserved
loop-i-preserved c = λ b p n. next_entry c.args.entries.now (c.args.to == b && c.args.position == p) c.loop-i.i n _ (value_at c.args.self.now b p n) (value_at c.loop-i.self b p n) (value_at c.set.new.self b p n) c.loop-i-test.true c.loop-i.auto.i (c.loop-i.invariant b p n) (c.in_ok-set.ensures b p n)
