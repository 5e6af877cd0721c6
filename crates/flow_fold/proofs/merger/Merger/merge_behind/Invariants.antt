use Rattle.std.proofs.Common.{length}
use Rattle.std.specs.Fn.{iterate}
use Rattle.flow_fold.specs.MergeBlocks.{Merging, merged_once}
use Rattle.flow_fold.specs.Merges.{IsSound, Shows}
use Rattle.flow_fold.proofs.merger.Merger.merge_behind.Given as goal

abbrev pub invariant-loop-turn : goal.invariant-loop-turn
invariant-loop-turn l = record {
  sound : IsSound (length l.initial.self.blocks.items) l.self;
  shows : (s : Merging) → Shows s l.initial.self → Shows (iterate (merged_once l.n.0) l._turn s) l.self;
}
