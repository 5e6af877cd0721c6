use Rattle.std.proofs.Common.{length}
use Rattle.flow_fold.specs.MergeBlocks.{Merging, merged_through}
use Rattle.flow_fold.specs.Merges.{IsSound, Shows}
use Rattle.flow_fold.proofs.merger.Merger.merge_all.Given as goal

abbrev pub invariant-loop-n : goal.invariant-loop-n
invariant-loop-n l = record {
  sound : IsSound (length l.initial.self.blocks.items) l.self;
  shows : (s : Merging) → Shows s l.initial.self → Shows (merged_through l.n s) l.self;
}
