use Rattle.std.proofs.Common.{subst}
use Rattle.flow_fold.specs.MergeBlocks.{merged_through, all_merged, unmerged, blocks_merged}
use Rattle.flow_fold.specs.Merges.{Shows}
use Rattle.flow_fold.proofs.merging.merged.Goals as goal

pub unmerged-requires : goal.unmerged-requires
unmerged-requires c = record { within = λ a t k e in_it. c.requires.formed.formed.in_range a t (k, e, in_it) }

pub returns : goal.returns
unfolding blocks_merged
returns c = c.in_ok-new.ensures (all_merged c.args.b) (subst (λ n. Shows (merged_through n (unmerged c.args.b)) c.merge_all.new.self) c.in_ok-merger.ensures.sound.long (c.in_ok-merge_all.ensures.shows (unmerged c.args.b) c.in_ok-merger.ensures.shows))
