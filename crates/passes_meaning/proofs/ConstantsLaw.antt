-- With the constants of one function folded a formed program is formed, and follows.
use Rattle.std.proofs.Common.{◌≡◌, ◌≢◌, ℕ, ◌<◌, ◌≤◌, Bool, true, false, nat_eq, if◌then◌else◌, List, [], ◌∷◌, map, length, Option, Some, None, slice_get, All, sym, ap, ◌∙◌, subst, arith}
use Rattle.std.specs.List.{fold, filter, AllByRecursion as Each}
use Rattle.std.proofs.lemmas.List.Elements.{All-contains, All-head, recursion_from_All}
use Rattle.oi_base.specs.declared.ids.RegId.{RegId}
use Rattle.oi_base.specs.declared.ids.FuncId.{FuncId}
use Rattle.oi_base.specs.declared.words.Width.TheVariants.{W1, W32}
use Rattle.oi_base.specs.Follows.{Follows}
use Rattle.ir_core.specs.declared.flat.Scalar.{Scalar}
use Rattle.ir_core.specs.declared.flat.Scalar.TheVariants as scalar
use Rattle.ir_core.specs.declared.flat.FlatOp.{FlatOp}
use Rattle.ir_core.specs.declared.flat.FlatOp.TheVariants.{Reg, Word, Null, Address, Poison}
use Rattle.ir_core.specs.declared.flat.Term.{Term}
use Rattle.ir_core.specs.declared.flat.FlatInstr.{FlatInstr}
use Rattle.ir_core.specs.declared.flat.FlatInstr.TheVariants.{Bin, Icmp, Select, Cast, Copy, Alloca, Load, Store, Gep, Call, Put, Get, Exit}
use Rattle.ir_core.specs.declared.flat.FlatEnd.{FlatEnd}
use Rattle.ir_core.specs.declared.flat.FlatEnd.TheVariants.{Ret, Br, Cond, Switch, Unreachable}
use Rattle.ir_core.specs.declared.flat.FlatBlock.{FlatBlock}
use Rattle.ir_core.specs.declared.flat.FlatBody.{FlatBody}
use Rattle.ir_core.specs.Memory.{Value, Bits, At, NullPointer, Poisoned}
use Rattle.ir_core.specs.Flat.{Program, Run, Regs, value_of, block_of, flat_run}
use Rattle.ir_core.specs.Formed.{FuncType, HasType, AllTyped, IsTyped, ReturnsType, IsEndTyped, IsFormed, NamesGlobal, used_by, used_at_end, all_uses, all_writes}
use Rattle.ir_core.proofs.Lists.{Has, Apart, each_from, contains}
use Rattle.ir_safety.specs.TypedRuns.{HasOffset, HoldsTypes}
use Rattle.ir_safety.proofs.Elements.{same_some}
use Rattle.ir_safety.proofs.FormedSafe.{formed_safe}
use Rattle.ir_safety.proofs.NeverStuck.{never_stuck}
use Rattle.ir_safety.proofs.TypedRuns.{registers_hold}
use Rattle.const_fold.specs.Operands.{with_operands, word_in}
use Rattle.const_fold.specs.FoldConstants.{known, all_facts, shortened, choice_of, address_of, is_variable, with_word, instr_with, block_with, body_with, constants_folded}
use Rattle.const_fold.proofs.ConstantsFormed.{with_facts_formed, all_uses_from}
use Rattle.const_fold.proofs.FactTypes.{facts_fit}
use Rattle.const_fold.proofs.Shapes.{made_at}
use Rattle.flow_fold.proofs.DroppedFormed.{apart_pairs}
use Rattle.ir_simulation.specs.KeepsMeaning.{KeepsMeaning}
use Rattle.ir_simulation.specs.Replaced.{with_body}
use Rattle.ir_simulation.proofs.Reached.{Reached}
use Rattle.ir_simulation.proofs.Ready.{IsThere, code_there, end_there}
use Rattle.ir_simulation.proofs.ReplacedFormed.{IsCalled, each_all, replaced_formed}
use Rattle.passes_meaning.proofs.Operands.{call_before}
use Rattle.passes_meaning.proofs.Facts.{justified}
use Rattle.passes_meaning.proofs.ConstantNames.{all_named, known_named}
use Rattle.passes_meaning.proofs.Constants.{IsReady, Ready, constants_follow}

-- ---- operands have types

abbrev HasSome : (ℕ → Scalar) → FlatOp → Type 0
HasSome types o = (s : Scalar) × HasType types o s

args_typed : (types : ℕ → Scalar) (os : List FlatOp) (ss : List Scalar) → AllTyped types os ss → Each (HasSome types) os
args_typed types [] ss h = tt
args_typed types (o ∷ os) [] h = absurd h
args_typed types (o ∷ os) (s ∷ ss) h = ((s, h.0), args_typed types os ss h.1)

terms_typed : (types : ℕ → Scalar) (ts : List Term) → Each (λ (t : Term). HasType types t.operand (scalar.Word t.width) × (t.stride < 4294967296)) ts → Each (HasSome types) (map (λ (t : Term). t.operand) ts)
terms_typed types [] h = tt
terms_typed types (t ∷ ts) h = ((scalar.Word t.width, h.0.0), terms_typed types ts h.1)

instr_uses : (types : ℕ → Scalar) (funcs : ℕ → FuncType) (i : FlatInstr) → IsTyped types funcs i → Each (HasSome types) (used_by i)
instr_uses types funcs (Bin d op w a b) h = ((scalar.Word w, h.1), ((scalar.Word w, h.2), tt))
instr_uses types funcs (Icmp d c s a b) h = ((s, h.1), ((s, h.2), tt))
instr_uses types funcs (Select d c a b) h = ((scalar.Word W1, h.0), ((types d.0, h.1), ((types d.0, h.2), tt)))
instr_uses types funcs (Cast d c from to a) h = ((scalar.Word from, h.1), tt)
instr_uses types funcs (Copy d a) h = ((types d.0, h), tt)
instr_uses types funcs (Alloca d size align) h = tt
instr_uses types funcs (Load d s align a) h = ((scalar.Pointer, h.1), tt)
instr_uses types funcs (Store s align v a) h = ((s, h.0), ((scalar.Pointer, h.1), tt))
instr_uses types funcs (Gep d a k ts) h = ((scalar.Pointer, h.1), terms_typed types ts (recursion_from_All (λ (t : Term). HasType types t.operand (scalar.Word t.width) × (t.stride < 4294967296)) ts h.3))
instr_uses types funcs (Call d f args) h = args_typed types args (funcs f.0).params h.0
instr_uses types funcs (Put d a) h = ((scalar.Word W32, h.0), tt)
instr_uses types funcs (Get d) h = tt
instr_uses types funcs (Exit a) h = ((scalar.Word W32, h), tt)

returned : (types : ℕ → Scalar) (result : Option Scalar) (a : FlatOp) → ReturnsType types result (Some a) → HasSome types a
returned types None a h = absurd h
returned types (Some s) a h = (s, h)

end_uses : (types : ℕ → Scalar) (result : Option Scalar) (e : FlatEnd) → IsEndTyped types result e → Each (HasSome types) (used_at_end e)
end_uses types result (Ret None) h = tt
end_uses types result (Ret (Some a)) h = (returned types result a h, tt)
end_uses types result (Br b) h = tt
end_uses types result (Cond c t f) h = ((scalar.Word W1, h), tt)
end_uses types result (Switch a w cases other) h = ((scalar.Word w, h.0), tt)
end_uses types result Unreachable h = tt

-- ---- pointers have offsets of 32 bits

value_offset : (types : ℕ → Scalar) (regs : Regs) → ((q : ℕ) (v : Value) → regs q ≡ Some v → HasOffset v) → (o : FlatOp) (s : Scalar) (v : Value) → HasType types o s → value_of regs o ≡ Some v → HasOffset v
value_offset types regs h (Reg r) s v t e = h r.0 v e
value_offset types regs h (Word a) s v t e = subst HasOffset (same_some (Bits a) v e) tt
value_offset types regs h Null s v t e = subst HasOffset (same_some NullPointer v e) tt
value_offset types regs h (Address g k) s v t e = subst HasOffset (same_some (At g k) v e) t.1
value_offset types regs h Poison s v t e = subst HasOffset (same_some Poisoned v e) tt

-- ---- calls

choice_calls : (d : RegId) (o : Option ℕ) (c a b : FlatOp) (x : Option RegId) (g : FuncId) (args : List FlatOp) → choice_of d o c a b ≡ Call x g args → ⊥
choice_calls d None c a b x g args e = cc
choice_calls d (Some z) c a b x g args e = cc

address_calls : (d : RegId) (a : FlatOp) (k : ℕ) (ts : List Term) (x : Option RegId) (g : FuncId) (args : List FlatOp) → address_of d a k ts ≡ Call x g args → ⊥
address_calls d a k [] x g args e = by_test (nat_eq k 0) e
  where
    by_test : (t : Bool) → (if t then Copy d a else Gep d a k []) ≡ Call x g args → ⊥
    by_test true e = cc
    by_test false e = cc
address_calls d a k (t ∷ ts) x g args e = cc

short_call : (i : FlatInstr) (x : Option RegId) (g : FuncId) (args : List FlatOp) → shortened i ≡ Call x g args → i ≡ Call x g args
short_call (Select d c a b) x g args e = absurd (choice_calls d (word_in W1 c) c a b x g args e)
short_call (Gep d a k ts) x g args e = absurd (address_calls d a (fold with_word k ts) (filter is_variable ts) x g args e)
short_call (Bin d op w a b) x g args e = e
short_call (Icmp d c s a b) x g args e = e
short_call (Cast d c from to a) x g args e = e
short_call (Copy d a) x g args e = e
short_call (Alloca d size align) x g args e = e
short_call (Load d s align a) x g args e = e
short_call (Store s align v a) x g args e = e
short_call (Call d f os) x g args e = e
short_call (Put d a) x g args e = e
short_call (Get d) x g args e = e
short_call (Exit a) x g args e = e

old_call : (old : FlatBody) (g : FuncId) → IsCalled (body_with (all_facts old) old) g → IsCalled old g
old_call old g call =
    let k = made_at (block_with (all_facts old)) old.blocks call.block call.code call.is_block in
    let i = made_at (instr_with (all_facts old)) k.0.code call.place _ (subst (λ (l : FlatBlock). slice_get l.code call.place ≡ Some (Call call.result g call.args)) (sym k.2) call.is_call) in
    let c = call_before (known (all_facts old)) g call.result call.args i.0 (short_call (with_operands (known (all_facts old)) i.0) call.result g call.args i.2) in
    record { block = call.block; place = call.place; code = k.0; result = c.result; args = c.args; is_block = k.1; is_call = i.1 ∙ ap Some c.is_call }

-- ---- the whole

module _ (p : Program) (types : ℕ → ℕ → Scalar) (funcs : ℕ → FuncType) (formed : IsFormed p types funcs) (f : ℕ) (old : FlatBody) (is_old : p.body f ≡ Some old) where
  once : Apart (all_writes old)
  once = apart_pairs (all_writes old) (formed.bodies f old is_old).written_once

  no_param : (q : ℕ) → q < old.params → Each (λ r. q ≢ r) (all_writes old)
  no_param q lt = each_from (λ (r : ℕ). q ≢ r) (all_writes old) (λ r has same.
      let in_range = All-contains (λ (r : ℕ). (old.params ≤ r) × (r < old.regs)) (all_writes old) r (formed.bodies f old is_old).written (contains (all_writes old) r has) in
      let le = in_range.0 in absurd (omega (arith, lt, le, same)))

  module _ (input : List ℕ) (small : All (λ b. b < 256) input) where
    top_offsets : (r : Run) → Reached p input r → (q : ℕ) (v : Value) → r.top.regs q ≡ Some v → HasOffset v
    top_offsets r h q v e =
        let all = registers_hold p types funcs formed input small h.0 in
        let top = All-head (HoldsTypes types) _ _ all in
        (top q v (subst (λ (x : Run). x.top.regs q ≡ Some v) h.1 e)).1

    all_ready : (r : Run) → Reached p input r → (os : List FlatOp) → Each (HasSome (types f)) os → Each (IsThere r.top.regs) os → Each (IsReady r.top.regs) os
    all_ready r h [] typed there = tt
    all_ready r h (o ∷ os) typed there = ((there.0.0, there.0.1, value_offset (types f) r.top.regs (top_offsets r h) o typed.0.0 there.0.0 typed.0.1 there.0.1), all_ready r h os typed.1 there.1)

    in_block : (r : Run) → r.top.func ≡ f → (k : FlatBlock) → slice_get old.blocks r.top.block ≡ Some k → block_of (p.body r.top.func) r.top.block ≡ Some k
    in_block r is k e = ap (λ g. block_of (p.body g) r.top.block) is ∙ ap (λ o. block_of o r.top.block) is_old ∙ e

    ready : Ready p f old (all_facts old) (justified old once) input
    ready = record {
      at_code = λ r h going is k i e here. all_ready r h (used_by i) (instr_uses (types f) funcs i ((formed.bodies f old is_old).code r.top.block r.top.place k i e here)) (code_there p types funcs formed input small r h going k i (in_block r is k e) here);
      at_end = λ r h going is k e past. all_ready r h (used_at_end k.end) (end_uses (types f) (funcs f).result k.end ((formed.bodies f old is_old).ends r.top.block k e)) (end_there p types funcs formed input small r h going k (in_block r is k e) past);
    }

    folded_follows : Follows (flat_run p input) (flat_run (with_body p f (body_with (all_facts old) old)) input)
    folded_follows = constants_follow p f old (all_facts old) (justified old once) is_old (λ q lt. (justified old once).of_written q (no_param q lt)) input (never_stuck p types funcs (formed_safe p types funcs formed) input small) ready

  -- ---- what is named

  old_names : (o : FlatOp) → Has (all_uses old) o → NamesGlobal (length p.globals) o
  old_names o has = All-contains (NamesGlobal (length p.globals)) (all_uses old) o (formed.addresses f old is_old) (contains (all_uses old) o has)

  new_names : (o : FlatOp) → Has (all_uses (body_with (all_facts old) old)) o → NamesGlobal (length p.globals) o
  new_names o has =
      let body = formed.bodies f old is_old in
      let from = all_uses_from (types f) funcs (funcs f) old (all_facts old) (facts_fit (types f) funcs (funcs f) old body) body o has in
      subst (NamesGlobal (length p.globals)) from.2 (known_named (length p.globals) (all_facts old) (all_named (length p.globals) old old_names) from.0 (old_names from.0 from.1))

pub constants_keep_meaning : KeepsMeaning constants_folded
unfolding constants_folded
constants_keep_meaning p types funcs h f old is_old =
    let body = h.bodies f old is_old in
    let new = body_with (all_facts old) old in (
      replaced_formed p types funcs h f old new is_old (with_facts_formed (types f) funcs (funcs f) old (all_facts old) (facts_fit (types f) funcs (funcs f) old body) body) (old_call old)
          (each_all (NamesGlobal (length p.globals)) (all_uses new) (new_names p types funcs h f old is_old)),
      folded_follows p types funcs h f old is_old,
    )
