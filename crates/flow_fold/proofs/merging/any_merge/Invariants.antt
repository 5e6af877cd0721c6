use Rattle.std.proofs.Common.{◌≡◌, ◌<◌, ℕ, Some, None, slice_get}
use Rattle.ir_core.specs.declared.flat.FlatBlock.{FlatBlock}
use Rattle.flow_fold.specs.Merges.{next_merge}
use Rattle.flow_fold.proofs.merging.any_merge.Given as goal

abbrev pub invariant-loop-n : goal.invariant-loop-n
invariant-loop-n l = (n : ℕ) (k : FlatBlock) → n < l.n → slice_get l.blocks n ≡ Some k → next_merge n l.counts k ≡ None
