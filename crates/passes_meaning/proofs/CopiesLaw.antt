-- With the copies of one function replaced a formed program is formed, and follows.
use Rattle.std.proofs.Common.{◌≡◌, ⊎_elim, ℕ, ◌++◌, map, length, Some, slice_get, sym, ap, ◌∙◌, subst}
use Rattle.std.specs.List.{flat_map}
use Rattle.std.proofs.lemmas.List.Elements.{All-contains}
use Rattle.oi_base.specs.declared.ids.FuncId.{FuncId}
use Rattle.ir_core.specs.declared.flat.FlatOp.{FlatOp}
use Rattle.ir_core.specs.declared.flat.FlatOp.TheVariants.{Reg, Word, Null, Address, Poison}
use Rattle.ir_core.specs.declared.flat.Entry.{Entry}
use Rattle.ir_core.specs.declared.flat.Phi.{Phi}
use Rattle.ir_core.specs.declared.flat.FlatInstr.TheVariants.{Call}
use Rattle.ir_core.specs.declared.flat.FlatBlock.{FlatBlock}
use Rattle.ir_core.specs.declared.flat.FlatBody.{FlatBody}
use Rattle.ir_core.specs.Formed.{NamesGlobal, used_by, used_at_end, uses, all_uses}
use Rattle.ir_core.proofs.Lists.{Has, contains, has_at, has_part, at_has, has_mapped, map_source}
use Rattle.ir_safety.proofs.Elements.{split, in_part}
use Rattle.ir_safety.proofs.FormedSafe.{formed_safe}
use Rattle.ir_safety.proofs.NeverStuck.{never_stuck}
use Rattle.const_fold.specs.Operands.{end_with_operands}
use Rattle.const_fold.proofs.Shapes.{made_at}
use Rattle.local_passes.specs.LocalCopies.{Sources, source, from_source, end_sources, entry_copied, phi_copied, instr_copied, code_copied, block_copied, all_ends, copies_replaced}
use Rattle.local_passes.specs.DropDead.{values}
use Rattle.local_passes.proofs.CopiesFormed.{copied_formed}
use Rattle.local_passes.proofs.Needing.{of_phi, of_instr, of_end}
use Rattle.local_passes.proofs.Numbered.{numbered_source}
use Rattle.const_fold.proofs.WithOperands.{instr_uses, end_uses}
use Rattle.ir_simulation.specs.KeepsMeaning.{KeepsMeaning}
use Rattle.ir_simulation.proofs.ReplacedFormed.{IsCalled, each_all, replaced_formed}
use Rattle.passes_meaning.proofs.Operands.{call_before}
use Rattle.passes_meaning.proofs.CopiesFollow.{copies_follow}

-- a source in an operand's place names the same global
global_kept : (s : Sources) (n : ℕ) (o : FlatOp) → NamesGlobal n o → NamesGlobal n (from_source s o)
global_kept s n (Reg r) h = tt
global_kept s n (Word a) h = tt
global_kept s n Null h = tt
global_kept s n (Address g k) h = h
global_kept s n Poison h = tt

module _ (old : FlatBody) where
  abbrev new : FlatBody
  new = record old { blocks = map (block_copied (all_ends old)) old.blocks }

  old_call : (g : FuncId) → IsCalled new g → IsCalled old g
  old_call g call =
      let k = made_at (block_copied (all_ends old)) old.blocks call.block call.code call.is_block in
      let i = numbered_source (instr_copied k.0.code) k.0.code call.place _ (subst (λ (l : FlatBlock). slice_get l.code call.place ≡ Some (Call call.result g call.args)) (sym k.2) call.is_call) in
      let c = call_before (from_source (source k.0.code call.place)) g call.result call.args i.0 i.2 in
      record { block = call.block; place = call.place; code = k.0; result = c.result; args = c.args; is_block = k.1; is_call = i.1 ∙ ap Some c.is_call }

  module _ (n : ℕ) where
    in_block : (k : FlatBlock) → ((p : FlatOp) → Has (uses k) p → NamesGlobal n p) → (o : FlatOp) → Has (uses (block_copied (all_ends old) k)) o → NamesGlobal n o
    in_block k was o has = ⊎_elim
        (λ first. ⊎_elim of_phis of_code (split (flat_map values (map (phi_copied (all_ends old)) k.phis)) (flat_map used_by (code_copied k.code)) o first))
        of_terminator
        (split (flat_map values (map (phi_copied (all_ends old)) k.phis) ++ flat_map used_by (code_copied k.code)) (used_at_end (end_with_operands (from_source (end_sources k)) k.end)) o has)
      where
        of_phis : Has (flat_map values (map (phi_copied (all_ends old)) k.phis)) o → NamesGlobal n o
        of_phis in_it =
            let part = in_part values (map (phi_copied (all_ends old)) k.phis) o in_it in
            let f = map_source (phi_copied (all_ends old)) k.phis part.0 part.1 in
            let e = map_source (λ (e : Entry). e.value) part.0.entries o part.2 in
            let x = map_source (entry_copied (all_ends old)) f.0.entries e.0 (subst (λ (y : Phi). Has y.entries e.0) (sym f.2) e.1) in
            let used = of_phi k f.0 x.0.value f.1 (has_mapped (λ (e : Entry). e.value) f.0.entries x.0 x.1) in
            subst (NamesGlobal n) (ap (λ (y : Entry). y.value) x.2 ∙ e.2) (global_kept (all_ends old x.0.from.0) n x.0.value (was x.0.value used))

        of_code : Has (flat_map used_by (code_copied k.code)) o → NamesGlobal n o
        of_code in_it =
            let part = in_part used_by (code_copied k.code) o in_it in
            let place = at_has (code_copied k.code) part.0 part.1 in
            let j = numbered_source (instr_copied k.code) k.code place.0 part.0 place.1 in
            let p = instr_uses (from_source (source k.code place.0)) j.0 o (subst (λ i. Has (used_by i) o) (sym j.2) part.2) in
            subst (NamesGlobal n) p.2 (global_kept (source k.code place.0) n p.0 (was p.0 (of_instr k j.0 p.0 (has_at k.code place.0 j.0 j.1) p.1)))

        of_terminator : Has (used_at_end (end_with_operands (from_source (end_sources k)) k.end)) o → NamesGlobal n o
        of_terminator in_it = let p = end_uses (from_source (end_sources k)) k.end o in_it in subst (NamesGlobal n) p.2 (global_kept (end_sources k) n p.0 (was p.0 (of_end k p.0 p.1)))

    in_body : ((p : FlatOp) → Has (all_uses old) p → NamesGlobal n p) → (o : FlatOp) → Has (all_uses new) o → NamesGlobal n o
    in_body was o has =
        let part = in_part uses new.blocks o has in
        let k = map_source (block_copied (all_ends old)) old.blocks part.0 part.1 in
        in_block k.0 (λ p used. was p (has_part uses old.blocks k.0 p k.1 used)) o (subst (λ (l : FlatBlock). Has (uses l) o) (sym k.2) part.2)

pub copies_keep_meaning : KeepsMeaning copies_replaced
unfolding copies_replaced
copies_keep_meaning p types funcs h f old is_old = (
  replaced_formed p types funcs h f old (new old) is_old (copied_formed (types f) funcs (funcs f) old (h.bodies f old is_old)) (old_call old)
      (each_all (NamesGlobal (length p.globals)) (all_uses (new old)) (in_body old (length p.globals) (λ o has. All-contains (NamesGlobal (length p.globals)) (all_uses old) o (h.addresses f old is_old) (contains (all_uses old) o has)))),
  λ input small. copies_follow p f old is_old input (never_stuck p types funcs (formed_safe p types funcs h) input small),
)
