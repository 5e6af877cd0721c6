-- A formed body is formed after each pass of a round, and so after any number of rounds.
use Rattle.std.proofs.Common.{ℕ, zero, suc}
use Rattle.std.specs.Fn.{iterate}
use Rattle.ir_core.specs.declared.flat.Scalar.{Scalar}
use Rattle.ir_core.specs.declared.flat.FlatBody.{FlatBody}
use Rattle.ir_core.specs.Formed.{FuncType, IsFormedBody}
use Rattle.ir_core.specs.WellFormed.{IsWellFormed}
use Rattle.const_fold.specs.FoldConstants.{constants_folded}
use Rattle.const_fold.proofs.ConstantsFormed.{constants_formed}
use Rattle.flow_fold.specs.FoldBranches.{branches_folded}
use Rattle.flow_fold.specs.DropUnreached.{is_reached, unreached_dropped}
use Rattle.flow_fold.specs.MergeBlocks.{blocks_merged}
use Rattle.flow_fold.proofs.BranchesFormed as branches
use Rattle.flow_fold.proofs.DroppedFormed.{dropped_formed, used_on_paths}
use Rattle.flow_fold.proofs.MergedFormed.{all_merged_formed}
use Rattle.flow_fold.proofs.Reaching.{reached_closed, reached_path}
use Rattle.local_passes.specs.LocalCopies.{copies_replaced}
use Rattle.local_passes.specs.DropDead.{dead_dropped}
use Rattle.local_passes.specs.Simplify.{one_round, simplified}
use Rattle.local_passes.proofs.CopiesFormed.{copies_formed}
use Rattle.local_passes.proofs.DeadFormed.{dead_formed}

-- a pass keeps bodies formed
abbrev pub KeepsFormed : (FlatBody → FlatBody) → Type 0
KeepsFormed pass = (types : ℕ → Scalar) (funcs : ℕ → FuncType) (own : FuncType) (b : FlatBody) → IsFormedBody types funcs own b → IsFormedBody types funcs own (pass b)

branches_formed : KeepsFormed branches_folded
unfolding branches_folded
branches_formed = branches.branches_formed

unreached_formed : KeepsFormed unreached_dropped
unfolding unreached_dropped
unreached_formed types funcs own b h = dropped_formed types funcs own b h (is_reached b) (reached_closed b) (used_on_paths types funcs own b h (is_reached b) (reached_closed b) (reached_path b))

merged_formed : KeepsFormed blocks_merged
unfolding blocks_merged
merged_formed types funcs own b h = all_merged_formed types funcs own b h

well : (pass : FlatBody → FlatBody) → KeepsFormed pass → (b : FlatBody) → IsWellFormed b → IsWellFormed (pass b)
well pass keeps b w = record { types = w.types; funcs = w.funcs; own = w.own; formed = keeps w.types w.funcs w.own b w.formed }

pub constants_well : (b : FlatBody) → IsWellFormed b → IsWellFormed (constants_folded b)
constants_well = well constants_folded constants_formed

pub branches_well : (b : FlatBody) → IsWellFormed b → IsWellFormed (branches_folded b)
branches_well = well branches_folded branches_formed

pub unreached_well : (b : FlatBody) → IsWellFormed b → IsWellFormed (unreached_dropped b)
unreached_well = well unreached_dropped unreached_formed

pub merged_well : (b : FlatBody) → IsWellFormed b → IsWellFormed (blocks_merged b)
merged_well = well blocks_merged merged_formed

pub copies_well : (b : FlatBody) → IsWellFormed b → IsWellFormed (copies_replaced b)
copies_well = well copies_replaced copies_formed

round_formed : KeepsFormed one_round
round_formed types funcs own b h =
    let folded = branches_formed types funcs own (constants_folded b) (constants_formed types funcs own b h) in
    let left = unreached_formed types funcs own (branches_folded (constants_folded b)) folded in
    let joined = merged_formed types funcs own (unreached_dropped (branches_folded (constants_folded b))) left in
    let replaced = copies_formed types funcs own (blocks_merged (unreached_dropped (branches_folded (constants_folded b)))) joined in
    dead_formed types funcs own (copies_replaced (blocks_merged (unreached_dropped (branches_folded (constants_folded b))))) replaced

rounds_formed : (n : ℕ) → KeepsFormed (iterate one_round n)
rounds_formed zero types funcs own b h = h
rounds_formed (suc n) types funcs own b h = rounds_formed n types funcs own (one_round b) (round_formed types funcs own b h)

pub rounds_well : (n : ℕ) (b : FlatBody) → IsWellFormed b → IsWellFormed (iterate one_round n b)
rounds_well n = well (iterate one_round n) (rounds_formed n)

pub simplified_formed : KeepsFormed simplified
unfolding simplified
simplified_formed = rounds_formed 4
