-- With the dead code of one function dropped a formed program is formed, and follows.
use Rattle.std.proofs.Common.{◌≡◌, ℕ, Bool, true, false, List, length, Option, Some, refl, sym, ap, ◌∙◌, subst}
use Rattle.std.proofs.lemmas.List.Elements.{All-contains}
use Rattle.oi_base.specs.declared.ids.RegId.{RegId}
use Rattle.oi_base.specs.declared.ids.FuncId.{FuncId}
use Rattle.ir_core.specs.declared.flat.Scalar.{Scalar}
use Rattle.ir_core.specs.declared.flat.FlatOp.{FlatOp}
use Rattle.ir_core.specs.declared.flat.FlatInstr.{FlatInstr}
use Rattle.ir_core.specs.declared.flat.FlatInstr.TheVariants.{Bin, Icmp, Select, Cast, Copy, Alloca, Load, Store, Gep, Call, Put, Get, Exit}
use Rattle.ir_core.specs.declared.flat.FlatBlock.{FlatBlock}
use Rattle.ir_core.specs.declared.flat.FlatBody.{FlatBody}
use Rattle.ir_core.specs.Flat.{Program}
use Rattle.ir_core.specs.Formed.{FuncType, IsFormedBody, IsFormed, NamesGlobal, uses, all_uses}
use Rattle.ir_core.proofs.Lists.{Has, contains, has_part, at_has, map_source}
use Rattle.ir_safety.proofs.Elements.{in_part}
use Rattle.local_passes.specs.DropDead.{is_needed, kept_if, instr_kept, block_kept, only_registers, dead_dropped}
use Rattle.local_passes.proofs.DeadFormed.{dropped_formed, used_left, instr_from}
use Rattle.ir_simulation.specs.KeepsMeaning.{KeepsMeaning}
use Rattle.ir_simulation.specs.Replaced.{with_body}
use Rattle.ir_simulation.proofs.ReplacedFormed.{IsCalled, each_all, replaced_formed}
use Rattle.passes_meaning.proofs.Operands.{IsCallOf}
use Rattle.passes_meaning.proofs.GlobalTwins.{global_twins}
use Rattle.passes_meaning.proofs.DeadFollow.{dead_follow}

-- a call that is left was one
same_kept : (t : Bool) (i j : FlatInstr) → kept_if t i ≡ Some j → i ≡ j
same_kept true i j e = cc
same_kept false i j e = absurd cc

call_kept : (keep : ℕ → Bool) (i : FlatInstr) (d : Option RegId) (g : FuncId) (args : List FlatOp) → instr_kept keep i ≡ Some (Call d g args) → IsCallOf g i
call_kept keep (Call x h os) d g args e = let same : h ≡ g = cc in record { result = x; args = os; is_call = subst (λ y. Call x h os ≡ Call x y os) same refl }
call_kept keep (Bin x op w a b) d g args e = absurd (let same = same_kept (keep x.0) (Bin x op w a b) (Call d g args) e in cc)
call_kept keep (Icmp x c s a b) d g args e = absurd (let same = same_kept (keep x.0) (Icmp x c s a b) (Call d g args) e in cc)
call_kept keep (Select x c a b) d g args e = absurd (let same = same_kept (keep x.0) (Select x c a b) (Call d g args) e in cc)
call_kept keep (Cast x c from to a) d g args e = absurd (let same = same_kept (keep x.0) (Cast x c from to a) (Call d g args) e in cc)
call_kept keep (Copy x a) d g args e = absurd (let same = same_kept (keep x.0) (Copy x a) (Call d g args) e in cc)
call_kept keep (Alloca x size align) d g args e = absurd (let same = same_kept (keep x.0) (Alloca x size align) (Call d g args) e in cc)
call_kept keep (Load x s align a) d g args e = absurd (let same = same_kept (keep x.0) (Load x s align a) (Call d g args) e in cc)
call_kept keep (Gep x a k ts) d g args e = absurd (let same = same_kept (keep x.0) (Gep x a k ts) (Call d g args) e in cc)
call_kept keep (Store s align v a) d g args e = absurd cc
call_kept keep (Put x a) d g args e = absurd cc
call_kept keep (Get x) d g args e = absurd cc
call_kept keep (Exit a) d g args e = absurd cc

module _ (types : ℕ → Scalar) (funcs : ℕ → FuncType) (own : FuncType) (old : FlatBody) (h : IsFormedBody types funcs own old) where
  abbrev new : FlatBody
  new = only_registers (is_needed old) old

  old_call : (g : FuncId) → IsCalled new g → IsCalled old g
  old_call g call =
      let i = instr_from types funcs own old h call.block call.place call.code (Call call.result g call.args) call.is_block call.is_call in
      let c = call_kept (is_needed old) i.2 call.result g call.args i.5 in
      record { block = call.block; place = i.1; code = i.0; result = c.result; args = c.args; is_block = i.3; is_call = i.4 ∙ ap Some c.is_call }

  old_use : (o : FlatOp) → Has (all_uses new) o → Has (all_uses old) o
  old_use o has =
      let part = in_part uses new.blocks o has in
      let k = map_source (block_kept (is_needed old)) old.blocks part.0 part.1 in
      let place = at_has old.blocks k.0 k.1 in
      has_part uses old.blocks k.0 o k.1 (used_left types funcs own old h place.0 k.0 place.1 o (subst (λ (l : FlatBlock). Has (uses l) o) (sym k.2) part.2)).0

dead_replaced : (p : Program) (types : ℕ → ℕ → Scalar) (funcs : ℕ → FuncType) → IsFormed p types funcs → (f : ℕ) (old : FlatBody) → p.body f ≡ Some old → IsFormed (with_body p f (only_registers (is_needed old) old)) types funcs
dead_replaced p types funcs h f old is_old =
    let body = h.bodies f old is_old in
    let new = only_registers (is_needed old) old in
    replaced_formed p types funcs h f old new is_old (dropped_formed (types f) funcs (funcs f) old body) (old_call (types f) funcs (funcs f) old body)
    (each_all (NamesGlobal (length p.globals)) (all_uses new) (λ o has. All-contains (NamesGlobal (length p.globals)) (all_uses old) o (h.addresses f old is_old) (contains (all_uses old) o (old_use (types f) funcs (funcs f) old body o has))))

pub dead_keep_meaning : KeepsMeaning dead_dropped
unfolding dead_dropped
dead_keep_meaning p types funcs h f old is_old =
    let new_formed = dead_replaced p types funcs h f old is_old in
    (new_formed, λ input small. dead_follow p types funcs h f old is_old (global_twins p.globals h.pointers) new_formed input small)
