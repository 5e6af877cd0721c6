-- All passes in four rounds.
use Rattle.const_fold.specs.FoldConstants.{constants_folded}
use Rattle.flow_fold.specs.FoldBranches.{branches_folded}
use Rattle.flow_fold.specs.DropUnreached.{unreached_dropped}
use Rattle.flow_fold.specs.MergeBlocks.{blocks_merged}
use Rattle.local_passes.specs.LocalCopies.{copies_replaced}
use Rattle.local_passes.specs.DropDead.{dead_dropped}
use Rattle.local_passes.specs.Simplify.{one_round, simplified}
use Rattle.ir_simulation.specs.KeepsMeaning.{KeepsMeaning}
use Rattle.ir_simulation.proofs.Composed.{keeps_then, keeps_repeated}
use Rattle.passes_meaning.proofs.BranchesLaw.{branches_keep_meaning}
use Rattle.passes_meaning.proofs.UnreachedLaw.{unreached_keeps_meaning}
use Rattle.passes_meaning.proofs.CopiesLaw.{copies_keep_meaning}
use Rattle.passes_meaning.proofs.ConstantsLaw.{constants_keep_meaning}
use Rattle.passes_meaning.proofs.DeadLaw.{dead_keep_meaning}
use Rattle.passes_meaning.proofs.MergedLaw.{merging_keeps_meaning}

first_two : KeepsMeaning (λ b. branches_folded (constants_folded b))
first_two = keeps_then constants_folded branches_folded constants_keep_meaning branches_keep_meaning

first_three : KeepsMeaning (λ b. unreached_dropped (branches_folded (constants_folded b)))
first_three = keeps_then (λ b. branches_folded (constants_folded b)) unreached_dropped first_two unreached_keeps_meaning

first_four : KeepsMeaning (λ b. blocks_merged (unreached_dropped (branches_folded (constants_folded b))))
first_four = keeps_then (λ b. unreached_dropped (branches_folded (constants_folded b))) blocks_merged first_three merging_keeps_meaning

first_five : KeepsMeaning (λ b. copies_replaced (blocks_merged (unreached_dropped (branches_folded (constants_folded b)))))
first_five = keeps_then (λ b. blocks_merged (unreached_dropped (branches_folded (constants_folded b)))) copies_replaced first_four copies_keep_meaning

one_round_keeps : KeepsMeaning one_round
one_round_keeps = keeps_then (λ b. copies_replaced (blocks_merged (unreached_dropped (branches_folded (constants_folded b))))) dead_dropped first_five dead_keep_meaning

pub simplified_keeps : KeepsMeaning simplified
unfolding simplified
simplified_keeps = keeps_repeated one_round one_round_keeps 3
