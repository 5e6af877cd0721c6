use Rattle.decisions.proofs.PrintedText.{next_line, all_lines}
use Rattle.decisions.proofs.printing.lines.Goals as goal

pub loop-at-preserved : goal.loop-at-preserved
loop-at-preserved c = let h = c.in_ok-push_line.ensures in next_line c.args.sites.now c.args.labels.now c.loop-at.at _ _ _ _ c.loop-at-test.true c.requires h c.loop-at.invariant

pub returns : goal.returns
returns c = all_lines c.args.sites.now c.args.labels.now c.loop-at.at _ c.loop-at-test.false c.loop-at.invariant
