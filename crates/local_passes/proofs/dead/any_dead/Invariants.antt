use Rattle.std.proofs.Common.{◌≡◌, drop}
use Rattle.std.specs.List.{list_any}
use Rattle.flow_fold.specs.Walks.{marked_in}
use Rattle.local_passes.specs.DeadTests.{block_loses}
use Rattle.local_passes.proofs.dead.any_dead.Given as goal

abbrev pub invariant-loop-block : goal.invariant-loop-block
invariant-loop-block l = list_any (block_loses (marked_in l.marks)) (drop l.block-index l.blocks) ≡ list_any (block_loses (marked_in l.marks)) l.blocks
