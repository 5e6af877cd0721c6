-- What the rows of a function's instructions write and use: the results that the instructions name, and their operands with their
-- types.
use Rattle.std.proofs.Common.{◌≡◌, ◌⊎◌, inl, inr, ℕ, false, bytes_eq, codes, List, [], ◌∷◌, map, Option, Some, None, refl, sym, subst}
use Rattle.std.specs.List.{AllByRecursion as Each}
use Rattle.std.specs.Option.{option_map}
use Rattle.std.proofs.lemmas.Bool.{cond_both}
use Rattle.oi_base.specs.declared.ids.RegId.{RegId}
use Rattle.ir_core.specs.declared.flat.FlatOp.{FlatOp}
use Rattle.ir_core.specs.declared.flat.FlatOp.TheVariants.{Poison}
use Rattle.ir_core.specs.declared.flat.Term.{Term}
use Rattle.ir_core.specs.declared.flat.Phi.{Phi}
use Rattle.ir_core.specs.declared.flat.FlatInstr.{FlatInstr}
use Rattle.ir_core.specs.declared.flat.FlatInstr.TheVariants as flat
use Rattle.ir_core.specs.declared.ty.IrType.{IrType}
use Rattle.ir_core.specs.declared.module.SymId.{SymId}
use Rattle.ir_core.specs.declared.module.Module.{Module}
use Rattle.ir_core.specs.declared.op.LocalId.{LocalId}
use Rattle.ir_core.specs.declared.op.TypedOperand.{TypedOperand}
use Rattle.ir_core.specs.declared.op.Pair.{Pair}
use Rattle.ir_core.specs.declared.op.SwitchCase.{SwitchCase}
use Rattle.ir_core.specs.declared.op.Op.{Op}
use Rattle.ir_core.specs.declared.op.Op.TheVariants as ops
use Rattle.ir_core.specs.declared.op.End.{End}
use Rattle.ir_core.specs.declared.op.End.TheVariants as ends
use Rattle.ir_core.specs.declared.func.Instr.{Instr}
use Rattle.ir_core.specs.Parts.{is_defined}
use Rattle.ir_core.specs.Operands.{op_operands, end_operands, symbol_text}
use Rattle.ir_core.specs.Operands.{typed as with_type}
use Rattle.ir_core.specs.Constants.{path, walk, joined, into, inside, element_of}
use Rattle.ir_core.specs.Instructions.{register, typed, index, first, func_number, entry, instruction, phi, call, terminator}
use Rattle.ir_core.specs.Formed.{of_result, written_by, used_by, used_at_end}
use Rattle.ir_core.proofs.Lists.{Has, each_map}

-- a call is one of four instructions
pub call_is : (m : Module) (d : Option RegId) (s : SymId) (args : List FlatOp) (Is : FlatInstr → Type 0)
    → Is (flat.Call d (record { 0 = func_number m s }) args) → Is (flat.Put d (first args)) → Is (flat.Get d)
    → (is_defined m s ≡ false → bytes_eq (symbol_text m s) (codes "putchar") ≡ false
    → bytes_eq (symbol_text m s) (codes "getchar") ≡ false → Is (flat.Exit (first args))) → Is (call m d s args)
call_is m d s args Is inner put get exit =
    cond_both (is_defined m s) _ _ Is (λ e. inner) (λ e.
    cond_both (bytes_eq (symbol_text m s) (codes "putchar")) _ _ Is (λ p. put) (λ p.
    cond_both (bytes_eq (symbol_text m s) (codes "getchar")) _ _ Is (λ q. get) (λ q.
    cond_both (bytes_eq (symbol_text m s) (codes "exit")) _ _ Is (λ x. exit e p q) (λ x. inner))))

-- the result that is written, if one is, is the one that is named
abbrev OfResult : Option LocalId → Option ℕ → Type 0
OfResult r None = Unit {0}
OfResult r (Some d) = r ≡ Some (record { 0 = d })

of_register : (r : Option LocalId) → OfResult r (of_result (option_map register r))
of_register None = tt
of_register (Some x) = refl

module _ (m : Module) where
  abbrev pub instr_row : Instr → Option FlatInstr
  instr_row i = instruction m i.result i.op

  abbrev pub phi_row : Instr → Option Phi
  phi_row i = phi m i.result i.op

  -- an operand of a row is one of some operands, or poison where there are too few arguments
  abbrev pub IsOneOf : List TypedOperand → FlatOp → Type 0
  IsOneOf as' o = (o ≡ Poison) ⊎ ((a : TypedOperand) × Has as' a × (typed m a ≡ o))

  -- so are some
  abbrev pub AreAmong : List TypedOperand → List FlatOp → Type 0
  AreAmong as' os = Each (IsOneOf as') os

  one_more : (a : TypedOperand) (as' : List TypedOperand) (os : List FlatOp) → AreAmong as' os → AreAmong (a ∷ as') os
  one_more a as' os h = each_map (IsOneOf as') (IsOneOf (a ∷ as')) os later h
    where
      later : (o : FlatOp) → IsOneOf as' o → IsOneOf (a ∷ as') o
      later o (inl e) = inl e
      later o (inr (b, has, is)) = inr (b, inr has, is)

  one_among : (a : TypedOperand) (as' : List TypedOperand) (os : List FlatOp) → AreAmong as' os → AreAmong (a ∷ as') (typed m a ∷ os)
  one_among a as' os h = (inr (a, inl refl, refl), one_more a as' os h)

  alone : (a : TypedOperand) → AreAmong (a ∷ []) (typed m a ∷ [])
  alone a = one_among a [] [] tt

  two : (a b : TypedOperand) → AreAmong (a ∷ b ∷ []) (typed m a ∷ typed m b ∷ [])
  two a b = one_among a (b ∷ []) (typed m b ∷ []) (alone b)

  all_among : (as' : List TypedOperand) → AreAmong as' (map (typed m) as')
  all_among [] = tt
  all_among (a ∷ as') = one_among a as' (map (typed m) as') (all_among as')

  first_among : (as' : List TypedOperand) → AreAmong as' (first (map (typed m) as') ∷ [])
  first_among [] = (inl refl, tt)
  first_among (a ∷ as') = one_among a as' [] tt

  abbrev in_terms : List Term → List FlatOp
  in_terms ts = map (λ (t : Term). t.operand) ts

  walk_among : (is : List TypedOperand) (t : IrType) → AreAmong is (in_terms (walk m.types.defs t (map (index m) is)).terms)
  walk_among [] t = tt
  walk_among (i ∷ is) t = by_element (element_of m.types.defs t) (walk_among is (inside m.types.defs t (element_of m.types.defs t) (index m i)))
    where
      by_element : (o : Option IrType) → AreAmong is (in_terms (walk m.types.defs (inside m.types.defs t o (index m i)) (map (index m) is)).terms)
          → AreAmong (i ∷ is) (in_terms (joined (into m.types.defs t o (index m i)) (walk m.types.defs (inside m.types.defs t o (index m i)) (map (index m) is))).terms)
      by_element None h = one_more i is _ h
      by_element (Some item) h = one_among i is _ h

  path_among : (is : List TypedOperand) (t : IrType) → AreAmong is (in_terms (path m.types.defs t (map (index m) is)).terms)
  path_among [] t = tt
  path_among (i ∷ is) t = one_among i is _ (walk_among is t)

  -- a row of an instruction with a result or without: it writes that alone, and uses the operands
  abbrev pub IsRow : Option LocalId → Op → FlatInstr → Type 0
  IsRow r op w = OfResult r (written_by w) × AreAmong (op_operands op) (used_by w)

  abbrev HasRow : Option LocalId → Op → Option FlatInstr → Type 0
  HasRow r op None = Unit {0}
  HasRow r op (Some w) = IsRow r op w

  call_row : (r : Option LocalId) (t : IrType) (s : SymId) (as' : List TypedOperand) → IsRow r (ops.Call t s as') (call m (option_map register r) s (map (typed m) as'))
  call_row r t s as' =
      call_is m (option_map register r) s (map (typed m) as') (IsRow r (ops.Call t s as'))
      (of_register r, all_among as') (of_register r, first_among as') (of_register r, tt) (λ e p q. (tt, first_among as'))

  rows : (r : Option LocalId) (op : Op) → HasRow r op (instruction m r op)
  rows (Some d) (ops.Bin op t a b) = (refl, two (with_type t a) (with_type t b))
  rows (Some d) (ops.Icmp c t a b) = (refl, two (with_type t a) (with_type t b))
  rows (Some d) (ops.Select c a b) = (refl, one_among c (a ∷ b ∷ []) (typed m a ∷ typed m b ∷ []) (two a b))
  rows (Some d) (ops.Cast c a t) = (refl, alone a)
  rows (Some d) (ops.Alloca t count stated) = (refl, tt)
  rows (Some d) (ops.Load t a stated) = (refl, alone a)
  rows (Some d) (ops.Gep t a is) = (refl, one_among a is _ (path_among is t))
  rows (Some d) (ops.Store a p stated) = (tt, two a p)
  rows (Some d) (ops.Call t s as') = call_row (Some d) t s as'
  rows (Some d) (ops.Phi t es) = tt
  rows None (ops.Bin op t a b) = tt
  rows None (ops.Icmp c t a b) = tt
  rows None (ops.Select c a b) = tt
  rows None (ops.Cast c a t) = tt
  rows None (ops.Alloca t count stated) = tt
  rows None (ops.Load t a stated) = tt
  rows None (ops.Gep t a is) = tt
  rows None (ops.Store a p stated) = (tt, two a p)
  rows None (ops.Call t s as') = call_row None t s as'
  rows None (ops.Phi t es) = tt

  pub row_is : (r : Option LocalId) (op : Op) (w : FlatInstr) → instruction m r op ≡ Some w → IsRow r op w
  row_is r op w e = subst (HasRow r op) e (rows r op)

  -- what a row writes is the instruction's result
  pub writes_result : (r : Option LocalId) (op : Op) (w : FlatInstr) (d : ℕ) → instruction m r op ≡ Some w → written_by w ≡ Some d → r ≡ Some (record { 0 = d })
  writes_result r op w d e is = subst (OfResult r) is (row_is r op w e).0

  pub end_among : (e : End) → AreAmong (end_operands e) (used_at_end (terminator m e))
  end_among (ends.Ret None) = tt
  end_among (ends.Ret (Some a)) = alone a
  end_among (ends.Br b) = tt
  end_among (ends.Cond c x y) = alone c
  end_among (ends.Switch a other cases) = one_among a (map (λ (c : SwitchCase). c.value) cases) [] tt
  end_among ends.Unreachable = tt

  -- a phi of the rows is one of the module
  pub record IsPhiRow (r : Option LocalId) (op : Op) (q : Phi) : Type 0 where
    pub result : r ≡ Some (record { 0 = q.reg.0 })
    pub ty : IrType
    pub pairs : List Pair
    pub is_phi : op ≡ ops.Phi ty pairs
    pub entries : q.entries ≡ map (entry m ty) pairs

  abbrev HasPhi : Option LocalId → Op → Option Phi → Type 0
  HasPhi r op None = Unit {0}
  HasPhi r op (Some q) = IsPhiRow r op q

  phis : (r : Option LocalId) (op : Op) → HasPhi r op (phi m r op)
  phis (Some d) (ops.Bin op t a b) = tt
  phis (Some d) (ops.Icmp c t a b) = tt
  phis (Some d) (ops.Select c a b) = tt
  phis (Some d) (ops.Cast c a t) = tt
  phis (Some d) (ops.Alloca t count stated) = tt
  phis (Some d) (ops.Load t a stated) = tt
  phis (Some d) (ops.Gep t a is) = tt
  phis (Some d) (ops.Store a p stated) = tt
  phis (Some d) (ops.Call t s as') = tt
  phis (Some d) (ops.Phi t es) = record { result = refl; ty = t; pairs = es; is_phi = refl; entries = refl }
  phis None op = tt

  pub phi_is : (r : Option LocalId) (op : Op) (q : Phi) → phi m r op ≡ Some q → IsPhiRow r op q
  phi_is r op q e = subst (HasPhi r op) e (phis r op)

  -- a phi has no row among the other instructions
  pub phi_alone : (r : Option LocalId) (op : Op) (q : Phi) → phi m r op ≡ Some q → instruction m r op ≡ None
  phi_alone r op q e = let p = phi_is r op q e in subst (λ (o : Op). instruction m r o ≡ None) (sym p.is_phi) (by_result r p.ty p.pairs)
    where
      by_result : (r : Option LocalId) (t : IrType) (es : List Pair) → instruction m r (ops.Phi t es) ≡ None
      by_result None t es = refl
      by_result (Some d) t es = refl
