-- With the unreached blocks of one function dropped a formed program is formed, and follows.
use Rattle.std.proofs.Common.{◌≡◌, length, Some, slice_get, subst}
use Rattle.std.proofs.lemmas.List.Elements.{All-contains}
use Rattle.ir_core.specs.declared.flat.FlatInstr.TheVariants.{Call}
use Rattle.ir_core.specs.declared.flat.FlatBlock.{FlatBlock}
use Rattle.ir_core.specs.Formed.{NamesGlobal, uses, all_uses}
use Rattle.ir_core.proofs.Lists.{Has, contains, has_at, has_part, at_has}
use Rattle.ir_safety.proofs.Elements.{in_part}
use Rattle.ir_safety.proofs.FormedSafe.{formed_safe}
use Rattle.ir_safety.proofs.NeverStuck.{never_stuck}
use Rattle.flow_fold.specs.Blocks.{only_blocks}
use Rattle.flow_fold.specs.DropUnreached.{is_reached, unreached_dropped}
use Rattle.flow_fold.proofs.Reaching.{reached_closed, reached_path}
use Rattle.flow_fold.proofs.DroppedFormed.{source, old_use, dropped_formed, used_on_paths}
use Rattle.ir_simulation.specs.KeepsMeaning.{KeepsMeaning}
use Rattle.ir_simulation.proofs.ReplacedFormed.{each_all, replaced_formed}
use Rattle.passes_meaning.proofs.UnreachedFollow.{unreached_follow}

pub unreached_keeps_meaning : KeepsMeaning unreached_dropped
unfolding unreached_dropped
unreached_keeps_meaning p types funcs h f old is_old =
    let body = h.bodies f old is_old in
    let keep = is_reached old in
    let closed = reached_closed old in
    let used = used_on_paths (types f) funcs (funcs f) old body keep closed (reached_path old) in (
      replaced_formed p types funcs h f old (only_blocks keep old) is_old (dropped_formed (types f) funcs (funcs f) old body keep closed used)
          (λ g call.
          let s = source (types f) funcs (funcs f) old body keep closed call.block call.code call.is_block in
          record { block = s.number; place = call.place; code = s.block; result = call.result; args = call.args; is_block = s.is_block; is_call = subst (λ (l : FlatBlock). slice_get l.code call.place ≡ Some (Call call.result g call.args)) s.same call.is_call })
          (each_all (NamesGlobal (length p.globals)) (all_uses (only_blocks keep old)) (λ o has.
          let part = in_part uses (only_blocks keep old).blocks o has in
          let place = at_has (only_blocks keep old).blocks part.0 part.1 in
          let s = source (types f) funcs (funcs f) old body keep closed place.0 part.0 place.1 in
          All-contains (NamesGlobal (length p.globals)) (all_uses old) o (h.addresses f old is_old) (contains (all_uses old) o (has_part uses old.blocks s.block o (has_at old.blocks s.number s.block s.is_block)
          (old_use (types f) funcs (funcs f) old body keep closed s.number s.block o (subst (λ (u : FlatBlock). Has (uses u) o) s.same part.2)))))),
      λ input small. unreached_follow p f old is_old input (never_stuck p types funcs (formed_safe p types funcs h) input small),
    )
