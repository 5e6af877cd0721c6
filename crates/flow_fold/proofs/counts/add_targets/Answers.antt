use Rattle.std.proofs.Common.{◌+◌, sym, ap, ◌∙◌}
use Rattle.ir_core.specs.Formed.{targets}
use Rattle.ir_core.proofs.ByPosition.{take_all}
use Rattle.flow_fold.specs.Merges.{count, count_in}
use Rattle.flow_fold.proofs.Counting.{counted_next}
use Rattle.flow_fold.proofs.counts.add_targets.Goals as goal

pub loop-b-preserved : goal.loop-b-preserved
loop-b-preserved c = record {
  long = c.in_ok-add_one.ensures.long ∙ c.loop-b.invariant.long;
  counts = counted_next c.args.counts.now c.loop-b.counts c.add_one.new.counts (targets c.args.end.now) c.loop-b.at c.in-Some.b.0 (sym c.in-Some.ensures.value) c.loop-b.invariant.counts c.in_ok-add_one.ensures.counts;
}

pub returns-clause-counts : goal.returns-clause-counts
returns-clause-counts c = λ t. c.loop-b.invariant.counts t ∙ ap (λ ts. count_in c.args.counts.now t + count t ts) (take_all (targets c.args.end.now) c.loop-b.at (sym c.in_default.ensures.value))
