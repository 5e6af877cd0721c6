use Rattle.std.proofs.Common.{◌∙◌}
use Rattle.flow_fold.proofs.Counting.{edges_next, all_within}
use Rattle.flow_fold.proofs.counts.edge_counts.Goals as goal

pub add_targets-requires : goal.add_targets-requires
add_targets-requires c = record { within = all_within c.args.blocks.now _ c.loop-at.at c.index-blocks-at.result c.requires.within c.loop-at-test.true c.loop-at.invariant.long }

pub loop-at-preserved : goal.loop-at-preserved
loop-at-preserved c = record {
  long = c.in_ok-add_targets.ensures.long ∙ c.loop-at.invariant.long;
  counts = edges_next c.loop-at.counts c.add_targets.new.counts c.args.blocks.now c.loop-at.at c.index-blocks-at.result c.loop-at-test.true c.loop-at.invariant.counts c.in_ok-add_targets.ensures.counts;
}
