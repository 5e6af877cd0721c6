use Rattle.std.proofs.Common.{◌≡◌, ◌++◌, map, take}
use Rattle.flow_fold.specs.MergeBlocks.{as_copy}
use Rattle.flow_fold.proofs.merger.push_copies.Given as goal

abbrev pub invariant-loop-phi : goal.invariant-loop-phi
invariant-loop-phi l = l.code ≡ l.initial.code ++ map as_copy (take l.phi-index l.phis)
