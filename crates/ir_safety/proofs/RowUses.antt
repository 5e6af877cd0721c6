-- What the rows of a function's instructions use and write: the names that the instructions use, and their results.
use Rattle.std.proofs.Common.{◌≡◌, ◌⊎◌, inl, inr, ℕ, true, false, bytes_eq, codes, List, [], ◌∷◌, map, Option, Some, None, Contains, refl, sym, ap, subst}
use Rattle.std.specs.List.{flat_map}
use Rattle.std.specs.Option.{option_map}
use Rattle.std.proofs.lemmas.List.Elements.{All-contains}
use Rattle.oi_base.specs.declared.ids.Place.{Place}
use Rattle.oi_base.specs.declared.ids.RegId.{RegId}
use Rattle.ir_core.specs.declared.flat.Scalar.{Scalar}
use Rattle.ir_core.specs.declared.flat.Scalar.TheVariants as scalar
use Rattle.ir_core.specs.declared.flat.FlatOp.{FlatOp}
use Rattle.ir_core.specs.declared.flat.FlatOp.TheVariants.{Reg}
use Rattle.ir_core.specs.declared.flat.Term.{Term}
use Rattle.ir_core.specs.declared.flat.Phi.{Phi}
use Rattle.ir_core.specs.declared.flat.FlatInstr.{FlatInstr}
use Rattle.ir_core.specs.declared.flat.FlatInstr.TheVariants as flat
use Rattle.ir_core.specs.declared.flat.FlatEnd.{FlatEnd}
use Rattle.ir_core.specs.declared.flat.FlatEnd.TheVariants as flat_end
use Rattle.oi_base.specs.declared.words.Width.TheVariants.{W32}
use Rattle.ir_core.specs.declared.ty.IrType.{IrType, Void, Int}
use Rattle.ir_core.specs.declared.constant.Const.{Const}
use Rattle.ir_core.specs.declared.constant.Const as consts
use Rattle.ir_core.specs.declared.module.SymId.{SymId}
use Rattle.ir_core.specs.declared.module.Module.{Module}
use Rattle.ir_core.specs.declared.op.LocalId.{LocalId}
use Rattle.ir_core.specs.declared.op.Operand.{Operand}
use Rattle.ir_core.specs.declared.op.Operand.TheVariants as operands
use Rattle.ir_core.specs.declared.op.TypedOperand.{TypedOperand}
use Rattle.ir_core.specs.declared.op.SwitchCase.{SwitchCase}
use Rattle.ir_core.specs.declared.op.Op.{Op}
use Rattle.ir_core.specs.declared.op.Op.TheVariants as ops
use Rattle.ir_core.specs.declared.op.End.{End}
use Rattle.ir_core.specs.declared.op.End.TheVariants as ends
use Rattle.ir_core.specs.Parts.{instrs, is_defined, op_values, end_values, types_of, values_of, operand_locals}
use Rattle.ir_core.specs.declared.op.Pair.{Pair}
use Rattle.ir_core.specs.declared.func.Instr.{Instr}
use Rattle.ir_core.specs.declared.func.Func.{Func}
use Rattle.ir_core.specs.Operands.{op_operands, end_operands, symbol_text}
use Rattle.ir_core.specs.Operands.{typed as with_type}
use Rattle.ir_core.specs.Constants.{constant, zero_of, scalar_of}
use Rattle.ir_core.specs.Instructions.{register, operand, typed, instruction, phi, call, terminator}
use Rattle.ir_core.specs.Formed.{of_result, written_by, used_by, used_at_end}
use Rattle.ir_core.specs.Plain.{Numbers, other_reg, other_operand, other_term, other_instr, other_end}
use Rattle.ir_core.specs.Proper.{HasItsResult, IsProperFunc}
use Rattle.ir_core.specs.Valid.{IsValidFunc}
use Rattle.ir_core.specs.ValidFunc.{IsPhi}
use Rattle.ir_core.specs.ValidOps.{CallsWell, IsDefinedAs, IsDeclaredAs}
use Rattle.ir_core.proofs.Lists.{Has, each_of, has_part, has_in, has_mapped}
use Rattle.ir_safety.proofs.Safe.{NotFalse, true_too, and_so, in_turn}
use Rattle.ir_safety.proofs.Named.{named_any}
use Rattle.ir_safety.proofs.Elements.{mapped_twice}
use Rattle.ir_safety.proofs.PlainRows.{call_is, IsOneOf, AreAmong, row_is, end_among}

-- ---- what rows use

-- the registers among the operands of rows are local names among values
abbrev pub AreOf : List Operand → List FlatOp → Type 0
AreOf vs os = (x : RegId) → Has os (Reg x) → Has (flat_map operand_locals vs) (record { 0 = x.0 })

zero_no_register : (s : Scalar) (x : RegId) → zero_of s ≡ Reg x → ⊥
zero_no_register (scalar.Word w) x e = cc
zero_no_register scalar.Pointer x e = cc

module _ (m : Module) where
  -- no constant is a register
  no_register : (t : IrType) (c : Const) (x : RegId) → constant m t c ≡ Reg x → ⊥
  no_register t consts.Undef x e = zero_no_register (scalar_of t) x e
  no_register t (consts.Int n) x e = cc
  no_register t (consts.Bool b) x e = cc
  no_register t (consts.Address s) x e = cc
  no_register t (consts.Gep source s is) x e = cc
  no_register t consts.Null x e = cc
  no_register t c x e = cc

  pub is_local_name : (t : IrType) (v : Operand) (x : RegId) → operand m t v ≡ Reg x → v ≡ operands.Local (record { 0 = x.0 })
  is_local_name t (operands.Local y) x e = let same : register y ≡ x = cc in ap (λ (r : RegId). operands.Local (record { 0 = r.0 })) same
  is_local_name t (operands.Const c) x e = absurd (no_register t c x e)

  -- so they are where the operands of rows are among operands with these values
  names_of : (as' : List TypedOperand) (vs : List Operand) (os : List FlatOp) → values_of as' ≡ vs → AreAmong m as' os → AreOf vs os
  names_of as' vs os same among x h =
      subst (λ (ws : List Operand). Has (flat_map operand_locals ws) (record { 0 = x.0 })) same
      (by_operand (each_of (IsOneOf m as') os (Reg x) among h))
    where
      by_operand : IsOneOf m as' (Reg x) → Has (flat_map operand_locals (values_of as')) (record { 0 = x.0 })
      by_operand (inl e) = absurd cc
      by_operand (inr (a, has, is)) =
          has_part operand_locals (values_of as') a.value _ (has_mapped (λ (b : TypedOperand). b.value) as' a has)
          (subst (λ (w : Operand). Has (operand_locals w) (record { 0 = x.0 })) (sym (is_local_name a.ty a.value x is)) (inl refl))

  values_are : (op : Op) → values_of (op_operands op) ≡ op_values op
  values_are (ops.Phi t es) = mapped_twice (λ (a : TypedOperand). a.value) (λ (e : Pair). with_type t e.value) es
  values_are op = refl

  end_values_are : (e : End) → values_of (end_operands e) ≡ end_values e
  end_values_are (ends.Ret None) = refl
  end_values_are (ends.Ret (Some a)) = refl
  end_values_are (ends.Switch a other cases) =
      ap (λ (vs : List Operand). a.value ∷ vs) (mapped_twice (λ (b : TypedOperand). b.value) (λ (c : SwitchCase). c.value) cases)
  end_values_are e = refl

  -- a row uses what its instruction uses
  pub row_of : (r : Option LocalId) (op : Op) (w : FlatInstr) → instruction m r op ≡ Some w → AreOf (op_values op) (used_by w)
  row_of r op w e = names_of (op_operands op) (op_values op) (used_by w) (values_are op) (row_is m r op w e).1

  pub end_of : (e : End) → AreOf (end_values e) (used_at_end (terminator m e))
  end_of e = names_of (end_operands e) (end_values e) (used_at_end (terminator m e)) (end_values_are e) (end_among m e)

  -- a phi has no row among the other instructions
  pub no_phi : (r : Option LocalId) (op : Op) (w : FlatInstr) → instruction m r op ≡ Some w → IsPhi op → ⊥
  no_phi (Some d) (ops.Phi t es) w e h = cc
  no_phi None (ops.Phi t es) w e h = cc
  no_phi r op w e h = absurd h

-- ---- other numbers

module _ (n : Numbers) where
  result_other : (d : Option RegId) → of_result (option_map (other_reg n) d) ≡ option_map n.reg (of_result d)
  result_other None = refl
  result_other (Some d) = refl

  pub written_other : (i : FlatInstr) → written_by (other_instr n i) ≡ option_map n.reg (written_by i)
  written_other (flat.Bin d op w a b) = refl
  written_other (flat.Icmp d c s a b) = refl
  written_other (flat.Select d c a b) = refl
  written_other (flat.Cast d c from to a) = refl
  written_other (flat.Copy d a) = refl
  written_other (flat.Alloca d size align) = refl
  written_other (flat.Load d s align a) = refl
  written_other (flat.Store s align v a) = refl
  written_other (flat.Gep d a k ts) = refl
  written_other (flat.Call d f args) = result_other d
  written_other (flat.Put d a) = result_other d
  written_other (flat.Get d) = result_other d
  written_other (flat.Exit a) = refl

  terms_other : (ts : List Term) → map (λ (t : Term). t.operand) (map (other_term n) ts) ≡ map (other_operand n) (map (λ (t : Term). t.operand) ts)
  terms_other [] = refl
  terms_other (t ∷ ts) = ap (λ (os : List FlatOp). other_operand n t.operand ∷ os) (terms_other ts)

  pub used_other : (i : FlatInstr) → used_by (other_instr n i) ≡ map (other_operand n) (used_by i)
  used_other (flat.Bin d op w a b) = refl
  used_other (flat.Icmp d c s a b) = refl
  used_other (flat.Select d c a b) = refl
  used_other (flat.Cast d c from to a) = refl
  used_other (flat.Copy d a) = refl
  used_other (flat.Alloca d size align) = refl
  used_other (flat.Load d s align a) = refl
  used_other (flat.Store s align v a) = refl
  used_other (flat.Gep d a k ts) = ap (λ (os : List FlatOp). other_operand n a ∷ os) (terms_other ts)
  used_other (flat.Call d f args) = refl
  used_other (flat.Put d a) = refl
  used_other (flat.Get d) = refl
  used_other (flat.Exit a) = refl

  pub end_used_other : (e : FlatEnd) → used_at_end (other_end n e) ≡ map (other_operand n) (used_at_end e)
  end_used_other (flat_end.Ret None) = refl
  end_used_other (flat_end.Ret (Some a)) = refl
  end_used_other (flat_end.Br b) = refl
  end_used_other (flat_end.Cond c t f) = refl
  end_used_other (flat_end.Switch a w cases other) = refl
  end_used_other flat_end.Unreachable = refl

-- ---- what is written

-- the row of an instruction with a result: a phi or another instruction that writes it
abbrev pub HasRow : Module → LocalId → Option LocalId → Op → Type 0
HasRow m d r op = ((q : Phi) × (phi m r op ≡ Some q) × (q.reg.0 ≡ d.0)) ⊎ ((w : FlatInstr) × (instruction m r op ≡ Some w) × (written_by w ≡ Some d.0))

not_name : (name word : List ℕ) → name ≡ word → bytes_eq word word ≡ true → bytes_eq name word ≡ false → ⊥
not_name name word e t f = let g : bytes_eq word word ≡ false = subst (λ (z : List ℕ). bytes_eq z word ≡ false) e f in cc

module _ (m : Module) where
  -- `exit` alone writes nothing, and it gives none
  exits : (s : SymId) (t : IrType) (ts : List IrType) → IsDefinedAs m s t ts ⊎ IsDeclaredAs m s t ts → is_defined m s ≡ false → bytes_eq (symbol_text m s) (codes "putchar") ≡ false → bytes_eq (symbol_text m s) (codes "getchar") ≡ false → t ≡ Void
  exits s t ts (inl f) e p q = let d = named_any s m.funcs f.0 (has_in m.funcs f.0 f.1) f.2 in absurd cc
  exits s t ts (inr d) e p q = by_name d.3
    where
      by_name : ((symbol_text m s ≡ codes "putchar") × (t ≡ Int W32) × (ts ≡ Int W32 ∷ []))
          ⊎ (((symbol_text m s ≡ codes "getchar") × (t ≡ Int W32) × (ts ≡ [])) ⊎ ((symbol_text m s ≡ codes "exit") × (t ≡ Void) × (ts ≡ Int W32 ∷ []))) → t ≡ Void
      by_name (inl h) = absurd (not_name (symbol_text m s) (codes "putchar") h.0 refl p)
      by_name (inr (inl h)) = absurd (not_name (symbol_text m s) (codes "getchar") h.0 refl q)
      by_name (inr (inr h)) = h.1

  -- each instruction with a result has its row
  has_row : (p : Place) (d : LocalId) (op : Op) → HasItsResult (record { place = p; result = Some d; op = op }) → NotFalse (CallsWell m op) → NotFalse (HasRow m d (Some d) op)
  has_row p d (ops.Bin op t a b) h c = true_too (inr (_, refl, refl))
  has_row p d (ops.Icmp x t a b) h c = true_too (inr (_, refl, refl))
  has_row p d (ops.Select x a b) h c = true_too (inr (_, refl, refl))
  has_row p d (ops.Cast x a t) h c = true_too (inr (_, refl, refl))
  has_row p d (ops.Alloca t count stated) h c = true_too (inr (_, refl, refl))
  has_row p d (ops.Load t a stated) h c = true_too (inr (_, refl, refl))
  has_row p d (ops.Store a q stated) h c = absurd cc
  has_row p d (ops.Gep t a is) h c = true_too (inr (_, refl, refl))
  has_row p d (ops.Phi t es) h c = true_too (inl (_, refl, refl))
  has_row p d (ops.Call t s as') h c =
      in_turn
      (call_is m (Some (register d)) s (map (typed m) as') (λ (w : FlatInstr). NotFalse (written_by w ≡ Some d.0)) (true_too refl) (true_too refl) (true_too refl)
      (λ e f g. and_so c (λ well. absurd (no_result (exits s t (types_of as') well e f g)))))
      (λ w. inr (call m (Some (register d)) s (map (typed m) as'), refl, w))
    where
      no_result : t ≡ Void → ⊥
      no_result e = let none : true ≡ false = subst (λ (u : IrType). HasItsResult (record { place = p; result = Some d; op = ops.Call u s as' })) e h in cc

  pub result_row : (f : Func) → IsProperFunc f → IsValidFunc m f → (i : Instr) (d : LocalId) → Contains (instrs f) i
      → i.result ≡ Some d → NotFalse (HasRow m d i.result i.op)
  result_row f proper rules i d stands e =
      subst (λ (r : Option LocalId). NotFalse (HasRow m d r i.op)) (sym e)
      (has_row i.place d i.op own (λ not. rules.calls i.place (i, stands, refl, not)))
    where
      own : HasItsResult (record { place = i.place; result = Some d; op = i.op })
      own =
          subst (λ (r : Option LocalId). HasItsResult (record { place = i.place; result = r; op = i.op })) e
          (All-contains HasItsResult (instrs f) i proper.results stands)
