-- With the branches of one function folded a formed program is formed, and follows.
use Rattle.std.proofs.Common.{◌≡◌, length, Some, slice_get, subst}
use Rattle.std.proofs.lemmas.List.Elements.{All-contains}
use Rattle.ir_core.specs.declared.flat.FlatInstr.TheVariants.{Call}
use Rattle.ir_core.specs.declared.flat.FlatBlock.{FlatBlock}
use Rattle.ir_core.specs.Formed.{NamesGlobal, all_uses}
use Rattle.ir_core.proofs.Lists.{contains}
use Rattle.ir_safety.proofs.FormedSafe.{formed_safe}
use Rattle.ir_safety.proofs.NeverStuck.{never_stuck}
use Rattle.flow_fold.specs.FoldBranches.{branches_folded}
use Rattle.flow_fold.proofs.BranchesFormed.{branches_formed, all_uses_fewer, from_old}
use Rattle.ir_simulation.specs.KeepsMeaning.{KeepsMeaning}
use Rattle.ir_simulation.proofs.ReplacedFormed.{each_all, replaced_formed}
use Rattle.passes_meaning.proofs.BranchesFollow.{branches_follow}

pub branches_keep_meaning : KeepsMeaning branches_folded
unfolding branches_folded
branches_keep_meaning p types funcs h f old is_old =
    let body = h.bodies f old is_old in
    let new = branches_folded old in (
      replaced_formed p types funcs h f old (branches_folded old) is_old (branches_formed (types f) funcs (funcs f) old body)
          (λ g call.
          let k = from_old (types f) funcs (funcs f) old body call.block call.code call.is_block in
          record { block = call.block; place = call.place; code = k.0; result = call.result; args = call.args; is_block = k.1; is_call = subst (λ (l : FlatBlock). slice_get l.code call.place ≡ Some (Call call.result g call.args)) k.2 call.is_call })
          (each_all (NamesGlobal (length p.globals)) (all_uses (branches_folded old)) (λ o in_it.
          All-contains (NamesGlobal (length p.globals)) (all_uses old) o (h.addresses f old is_old) (contains (all_uses old) o (all_uses_fewer (types f) funcs (funcs f) old body o in_it)))),
      λ input small. branches_follow p f old is_old input (never_stuck p types funcs (formed_safe p types funcs h) input small),
    )
