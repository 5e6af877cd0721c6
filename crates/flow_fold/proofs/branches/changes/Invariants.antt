use Rattle.std.proofs.Common.{◌≡◌, take}
use Rattle.flow_fold.specs.Changes.{changes}
use Rattle.flow_fold.proofs.branches.changes.Given as goal

abbrev pub invariant-loop-block : goal.invariant-loop-block
invariant-loop-block l = l.all.items ≡ changes (take l.block-index l.blocks)
