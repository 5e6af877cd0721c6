use Rattle.std.proofs.Common.{sym, ◌∙◌}
use Rattle.local_passes.proofs.NoCopies.{phis_same}
use Rattle.local_passes.proofs.copied_phis.blocks_with_phis.Goals as goal

pub returns-then-time-eq0 : goal.returns-then-time-eq0
returns-then-time-eq0 c = phis_same c.args.table.now c.requires.timed (sym c.time.ensures ∙ c.if-time-eq0.true) c.args.spans.now c.args.blocks
