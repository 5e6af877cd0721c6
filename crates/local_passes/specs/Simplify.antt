-- Four rounds of all passes.
use Rattle.std.specs.Fn.{iterate}
use Rattle.ir_core.specs.declared.flat.FlatBody.{FlatBody}
use Rattle.const_fold.specs.FoldConstants.{constants_folded}
use Rattle.flow_fold.specs.FoldBranches.{branches_folded}
use Rattle.flow_fold.specs.DropUnreached.{unreached_dropped}
use Rattle.flow_fold.specs.MergeBlocks.{blocks_merged}
use Rattle.local_passes.specs.LocalCopies.{copies_replaced}
use Rattle.local_passes.specs.DropDead.{dead_dropped}

-- constants, branches, unreached blocks, merging, copies and dead code, in this order
abbrev pub one_round : FlatBody → FlatBody
one_round body = dead_dropped (copies_replaced (blocks_merged (unreached_dropped (branches_folded (constants_folded body)))))

unfoldable pub simplified : FlatBody → FlatBody
simplified body = iterate one_round 4 body
