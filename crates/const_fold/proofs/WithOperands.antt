-- Instructions and terminators with other operands: what they write and use, where they lead, and their types.
use Rattle.std.proofs.Common.{◌≡◌, ℕ, suc, ◌≤◌, ◌<◌, List, [], ◌∷◌, map, length, Option, Some, None, All, refl, sym, ap, subst}
use Rattle.std.proofs.lemmas.List.Elements.{All-map}
use Rattle.ir_core.specs.declared.limits.TheConstants.{MOST_PARAMS}
use Rattle.ir_core.specs.declared.flat.Scalar.{Scalar}
use Rattle.ir_core.specs.declared.flat.Scalar.TheVariants as scalar
use Rattle.oi_base.specs.declared.words.Width.TheVariants.{W1}
use Rattle.ir_core.specs.declared.flat.FlatOp.{FlatOp}
use Rattle.ir_core.specs.declared.flat.Term.{Term}
use Rattle.ir_core.specs.declared.flat.FlatInstr.{FlatInstr}
use Rattle.ir_core.specs.declared.flat.FlatInstr.TheVariants.{Bin, Icmp, Select, Cast, Copy, Alloca, Load, Store, Gep, Call, Put, Get, Exit}
use Rattle.ir_core.specs.declared.flat.FlatEnd.{FlatEnd}
use Rattle.ir_core.specs.declared.flat.FlatEnd.TheVariants.{Ret, Br, Cond, Switch, Unreachable}
use Rattle.ir_core.specs.Formed.{HasType, FuncType, IsTyped, AllTyped, IsEndTyped, written_by, used_by, used_at_end, targets}
use Rattle.ir_core.proofs.Lists.{Has, map_source}
use Rattle.const_fold.specs.Operands.{with_operand, with_operands, end_with_operands}

pub writes_same : (g : FlatOp → FlatOp) (i : FlatInstr) → written_by (with_operands g i) ≡ written_by i
writes_same g (Bin d op w a b) = refl
writes_same g (Icmp d c s a b) = refl
writes_same g (Select d c a b) = refl
writes_same g (Cast d c from to a) = refl
writes_same g (Copy d a) = refl
writes_same g (Alloca d size align) = refl
writes_same g (Load d s align a) = refl
writes_same g (Store s align v a) = refl
writes_same g (Gep d a k ts) = refl
writes_same g (Call d f args) = refl
writes_same g (Put d a) = refl
writes_same g (Get d) = refl
writes_same g (Exit a) = refl

term_operands : (g : FlatOp → FlatOp) (ts : List Term) → map (λ (t : Term). t.operand) (map (with_operand g) ts) ≡ map g (map (λ (t : Term). t.operand) ts)
term_operands g [] = refl
term_operands g (t ∷ ts) = ap (λ os. g t.operand ∷ os) (term_operands g ts)

pub uses_mapped : (g : FlatOp → FlatOp) (i : FlatInstr) → used_by (with_operands g i) ≡ map g (used_by i)
uses_mapped g (Bin d op w a b) = refl
uses_mapped g (Icmp d c s a b) = refl
uses_mapped g (Select d c a b) = refl
uses_mapped g (Cast d c from to a) = refl
uses_mapped g (Copy d a) = refl
uses_mapped g (Alloca d size align) = refl
uses_mapped g (Load d s align a) = refl
uses_mapped g (Store s align v a) = refl
uses_mapped g (Gep d a k ts) = ap (λ os. g a ∷ os) (term_operands g ts)
uses_mapped g (Call d f args) = refl
uses_mapped g (Put d a) = refl
uses_mapped g (Get d) = refl
uses_mapped g (Exit a) = refl

-- an operand is made of an operand
pub instr_uses : (g : FlatOp → FlatOp) (i : FlatInstr) (o : FlatOp) → Has (used_by (with_operands g i)) o → (p : FlatOp) × Has (used_by i) p × (g p ≡ o)
instr_uses g i o h = map_source g (used_by i) o (subst (λ os. Has os o) (uses_mapped g i) h)

pub end_uses : (g : FlatOp → FlatOp) (e : FlatEnd) (o : FlatOp) → Has (used_at_end (end_with_operands g e)) o → (p : FlatOp) × Has (used_at_end e) p × (g p ≡ o)
end_uses g (Ret None) o h = absurd h
end_uses g (Ret (Some a)) o h = map_source g (a ∷ []) o h
end_uses g (Br b) o h = absurd h
end_uses g (Cond c t f) o h = map_source g (c ∷ []) o h
end_uses g (Switch a w cases other) o h = map_source g (a ∷ []) o h
end_uses g Unreachable o h = absurd h

pub same_targets : (g : FlatOp → FlatOp) (e : FlatEnd) → targets (end_with_operands g e) ≡ targets e
same_targets g (Ret a) = refl
same_targets g (Br b) = refl
same_targets g (Cond c t f) = refl
same_targets g (Switch a w cases other) = refl
same_targets g Unreachable = refl

module _ (types : ℕ → Scalar) (funcs : ℕ → FuncType) (g : FlatOp → FlatOp) (typed : (o : FlatOp) (s : Scalar) → HasType types o s → HasType types (g o) s) where
  all_typed : (os : List FlatOp) (ss : List Scalar) → AllTyped types os ss → AllTyped types (map g os) ss
  all_typed [] [] h = h
  all_typed (o ∷ os) (s ∷ ss) h = (typed o s h.0, all_typed os ss h.1)
  all_typed [] (s ∷ ss) h = h
  all_typed (o ∷ os) [] h = h

  map_length : (os : List FlatOp) → length (map g os) ≡ length os
  map_length [] = refl
  map_length (o ∷ os) = ap suc (map_length os)

  abbrev TermTyped : Term → Type 0
  TermTyped t = HasType types t.operand (scalar.Word t.width) × (t.stride < 4294967296)

  terms_typed : (ts : List Term) → All TermTyped ts → All TermTyped (map (with_operand g) ts)
  terms_typed ts h = All-map TermTyped (with_operand g) ts (λ k d lt. let t = h k d lt in (typed _ _ t.0, t.1))

  pub instr_typed : (i : FlatInstr) → IsTyped types funcs i → IsTyped types funcs (with_operands g i)
  instr_typed (Bin d op w a b) h = (h.0, typed a (scalar.Word w) h.1, typed b (scalar.Word w) h.2)
  instr_typed (Icmp d c s a b) h = (h.0, typed a s h.1, typed b s h.2)
  instr_typed (Select d c a b) h = (typed c (scalar.Word W1) h.0, typed a (types d.0) h.1, typed b (types d.0) h.2)
  instr_typed (Cast d c from to a) h = (h.0, typed a (scalar.Word from) h.1, h.2)
  instr_typed (Copy d a) h = typed a (types d.0) h
  instr_typed (Alloca d size align) h = h
  instr_typed (Load d s align a) h = (h.0, typed a scalar.Pointer h.1, h.2, h.3)
  instr_typed (Store s align v a) h = (typed v s h.0, typed a scalar.Pointer h.1, h.2, h.3)
  instr_typed (Gep d a k ts) h = (h.0, typed a scalar.Pointer h.1, h.2, terms_typed ts h.3)
  instr_typed (Call d f args) h = (all_typed args (funcs f.0).params h.0, subst (λ n. n ≤ MOST_PARAMS) (sym (map_length args)) h.1, h.2)
  instr_typed (Put d a) h = (typed a _ h.0, h.1)
  instr_typed (Get d) h = h
  instr_typed (Exit a) h = typed a _ h

  pub end_typed : (result : Option Scalar) (e : FlatEnd) → IsEndTyped types result e → IsEndTyped types result (end_with_operands g e)
  end_typed None (Ret None) h = h
  end_typed None (Ret (Some a)) h = h
  end_typed (Some s) (Ret None) h = h
  end_typed (Some s) (Ret (Some a)) h = typed a s h
  end_typed result (Br b) h = h
  end_typed result (Cond c t f) h = typed c (scalar.Word W1) h
  end_typed result (Switch a w cases other) h = (typed a (scalar.Word w) h.0, h.1, h.2)
  end_typed result Unreachable h = h
