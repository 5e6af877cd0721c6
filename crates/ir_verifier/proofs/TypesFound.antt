-- The places at which the rule of types is broken.
use Rattle.std.proofs.Common.{◌≡◌, ◌⊎◌, inl, inr, refl, sym, subst, Bool, true, false, not, List, ◌++◌, map, Some, None, All, arith}
use Rattle.std.specs.Bool.{Decides}
use Rattle.std.specs.List.{list_all}
use Rattle.std.proofs.lemmas.Bool.Decides.{Decides-and, Decides-not, nat_tests}
use Rattle.oi_base.specs.declared.ids.Place.{Place}
use Rattle.oi_base.specs.declared.words.Width.{Width}
use Rattle.ir_core.specs.declared.ty.TypeDef.{TypeDef}
use Rattle.ir_core.specs.declared.ty.IrType.{IrType, Void, Int, Ptr, Array', Struct', Named}
use Rattle.ir_core.specs.declared.module.Module.{Module}
use Rattle.ir_core.specs.declared.constant.Const.{Const}
use Rattle.ir_core.specs.declared.constant.Const as consts
use Rattle.ir_core.specs.declared.flat.CastOp.{CastOp}
use Rattle.ir_core.specs.declared.flat.CastOp.TheVariants.{Zext, Sext, Trunc}
use Rattle.ir_core.specs.declared.op.Operand.{Operand}
use Rattle.ir_core.specs.declared.op.Operand.TheVariants as operands
use Rattle.ir_core.specs.declared.op.TypedOperand.{TypedOperand}
use Rattle.ir_core.specs.declared.op.SwitchCase.{SwitchCase}
use Rattle.ir_core.specs.declared.op.Op.{Op}
use Rattle.ir_core.specs.declared.op.Op.TheVariants.{Bin, Icmp, Select, Cast, Alloca, Load, Store, Gep, Phi, Call}
use Rattle.ir_core.specs.declared.op.End.{End}
use Rattle.ir_core.specs.declared.op.End.TheVariants.{Ret, Br, Cond, Switch, Unreachable}
use Rattle.ir_core.specs.declared.func.Func.{Func}
use Rattle.ir_core.specs.declared.func.Param.{Param}
use Rattle.ir_core.specs.Operands.{Step, Does, Ends, steps, place_of, op_operands, end_operands}
use Rattle.ir_core.specs.Formed.{is_cast}
use Rattle.ir_core.specs.ValidConsts.{const_index, index_of, IsInteger}
use Rattle.ir_core.specs.ValidOps.{IsScalar, HasGoodTypes, ConstAgrees, ValueAgrees, OperandAgrees, OpAgrees, EndAgrees, StepAgrees, BreaksTypes}
use Rattle.ir_core.proofs.Lists.{Has, has_left, has_right, contains}
use Rattle.module_rules.specs.First.{earliest, IsFound}
use Rattle.module_rules.specs.Faults.{place_if}
use Rattle.ir_verifier.specs.CallFaults.{same_kind}
use Rattle.ir_core.specs.Types.{is_integer, is_bit, is_pointer, is_scalar}
use Rattle.module_rules.specs.Walks.{walks}
use Rattle.ir_verifier.specs.TypeFaults.{is_result_type, is_good_param, has_good_types, typing_of, const_agrees, value_agrees, operand_agrees, casts, casts_to, fits_op, fits_end, step_agrees, type_faults}
use Rattle.module_rules.proofs.Decided.{always, never, each}
use Rattle.module_rules.proofs.Earliest.{found}
use Rattle.module_rules.proofs.Faulty.{has, has_in}
use Rattle.module_rules.proofs.Faulty.{places, has_fault, fault_has}
use Rattle.module_rules.proofs.At.{step_places}
use Rattle.module_rules.proofs.IntegerLaws.{bit_decides, pointer_decides}
use Rattle.module_rules.proofs.WalkLaws.{integer_decides, and_then, walk_decides}
use Rattle.ir_verifier.proofs.TypeLaws.{scalar_decides, result_decides, kind_decides, scalar_kind, scalar_of_integer, local_decides}

cast_decides : (c : CastOp) (from to : Width) → Decides (casts c from to) (is_cast c from to)
cast_decides Zext from to = (λ e. grind (arith, nat_tests), λ h. grind (arith, nat_tests))
cast_decides Sext from to = (λ e. grind (arith, nat_tests), λ h. grind (arith, nat_tests))
cast_decides Trunc from to = (λ e. grind (arith, nat_tests), λ h. grind (arith, nat_tests))

abbrev Converts : CastOp → IrType → IrType → Type 0
Converts c t u = (from to : Width) × (t ≡ Int from) × (u ≡ Int to) × is_cast c from to

not_from : (c : CastOp) (t u : IrType) → ((w : Width) → t ≡ Int w → ⊥) → Converts c t u → ⊥
not_from c t u other h = other h.0 h.2

not_to : (c : CastOp) (t u : IrType) → ((w : Width) → u ≡ Int w → ⊥) → Converts c t u → ⊥
not_to c t u other h = other h.1 h.3

casts_decide : (c : CastOp) (t u : IrType) → Decides (casts_to c t u) (Converts c t u)
casts_decide c (Int v) (Int w) = let d = cast_decides c v w in (λ e. (v, w, refl, refl, d.0 e), of_cast d.1)
  where
    of_cast : (is_cast c v w → casts c v w ≡ true) → Converts c (Int v) (Int w) → casts c v w ≡ true
    of_cast back h =
        let from : h.0 ≡ v = let e : Int v ≡ Int h.0 = h.2 in cc in
        let to : h.1 ≡ w = let e : Int w ≡ Int h.1 = h.3 in cc in
        back (subst (λ (y : Width). is_cast c v y) to (subst (λ (x : Width). is_cast c x h.1) from h.4))
casts_decide c (Int v) Void = never (not_to c (Int v) Void (λ w e. cc))
casts_decide c (Int v) Ptr = never (not_to c (Int v) Ptr (λ w e. cc))
casts_decide c (Int v) (Array' k m ts) = never (not_to c (Int v) (Array' k m ts) (λ w e. cc))
casts_decide c (Int v) (Struct' m ts) = never (not_to c (Int v) (Struct' m ts) (λ w e. cc))
casts_decide c (Int v) (Named x) = never (not_to c (Int v) (Named x) (λ w e. cc))
casts_decide c Void u = never (not_from c Void u (λ w e. cc))
casts_decide c Ptr u = never (not_from c Ptr u (λ w e. cc))
casts_decide c (Array' k m ts) u = never (not_from c (Array' k m ts) u (λ w e. cc))
casts_decide c (Struct' m ts) u = never (not_from c (Struct' m ts) u (λ w e. cc))
casts_decide c (Named x) u = never (not_from c (Named x) u (λ w e. cc))

module _ (m : Module) (f : Func) where
  abbrev Defs : List TypeDef
  Defs = m.types.defs

  -- ---- operands

  const_decides : (t : IrType) (c : Const) → Decides (const_agrees (typing_of m f) t c) (ConstAgrees Defs c t)
  const_decides t (consts.Int n) = integer_decides t
  const_decides t (consts.Address g) = pointer_decides t
  const_decides t (consts.Gep source g is) =
      and_then (is_pointer t) (walks Defs source (map const_index is)) (pointer_decides t) (λ h. walk_decides Defs (map const_index is) source)
  const_decides t (consts.Bool b) = always
  const_decides t consts.Null = always
  const_decides t consts.Undef = always
  const_decides t consts.Poison = always
  const_decides t consts.Zero = always
  const_decides t (consts.Bytes b) = always
  const_decides t (consts.Array' l items) = always
  const_decides t (consts.Struct' l fields) = always

  value_decides : (t : IrType) (v : Operand) → IsScalar t → Decides (value_agrees (typing_of m f) t v) (ValueAgrees Defs f v t)
  value_decides t (operands.Local x) s = local_decides f x t s
  value_decides t (operands.Const c) s = const_decides t c

  operand_decides : (a : TypedOperand) → Decides (operand_agrees (typing_of m f) a) (OperandAgrees Defs f a)
  operand_decides a = and_then (is_scalar a.ty) (value_agrees (typing_of m f) a.ty a.value) (scalar_decides a.ty) (value_decides a.ty a.value)

  abbrev Agree : List TypedOperand → Type 0
  Agree as' = All (OperandAgrees Defs f) as'

  -- ---- instructions and terminators

  op_decides : (op : Op) → Agree (op_operands op) → Decides (fits_op (typing_of m f) op) (OpAgrees Defs op)
  op_decides (Bin op t a b) all = integer_decides t
  op_decides (Icmp c t a b) all = scalar_decides t
  op_decides (Select c a b) all =
      Decides-and (is_bit c.ty) (same_kind a.ty b.ty) (bit_decides c.ty) (scalar_kind a.ty b.ty (let second : OperandAgrees Defs f a = all 1 c (omega arith) in second.0))
  op_decides (Cast c a t) all = casts_decide c a.ty t
  op_decides (Alloca t None align) all = always
  op_decides (Alloca t (Some n) align) all = integer_decides n.ty
  op_decides (Load t a align) all = Decides-and (is_scalar t) (is_pointer a.ty) (scalar_decides t) (pointer_decides a.ty)
  op_decides (Store a p align) all = pointer_decides p.ty
  op_decides (Gep t a is) all =
      Decides-and (is_pointer a.ty) (walks Defs t (map index_of is)) (pointer_decides a.ty) (walk_decides Defs (map index_of is) t)
  op_decides (Phi t es) all = scalar_decides t
  op_decides (Call t g as') all = result_decides t

  end_decides : (e : End) → Agree (end_operands e) → Decides (fits_end f.result e) (EndAgrees f e)
  end_decides (Ret None) all = kind_decides f.result Void (inl refl)
  end_decides (Ret (Some a)) all = scalar_kind a.ty f.result (let first : OperandAgrees Defs f a = all 0 a (omega arith) in first.0)
  end_decides (Br b) all = always
  end_decides (Cond c t e) all = bit_decides c.ty
  end_decides (Switch a other cases) all =
      and_then (is_integer a.ty) (list_all (λ (c : SwitchCase). same_kind c.value.ty a.ty) cases) (integer_decides a.ty)
      (λ (i : IsInteger a.ty). each (λ (c : SwitchCase). same_kind c.value.ty a.ty) (λ (c : SwitchCase). c.value.ty ≡ a.ty) (λ (c : SwitchCase). kind_decides c.value.ty a.ty (inr (scalar_of_integer a.ty i))) cases)
  end_decides Unreachable all = always

  all_decide : (as' : List TypedOperand) → Decides (list_all (operand_agrees (typing_of m f)) as') (Agree as')
  all_decide as' = each (operand_agrees (typing_of m f)) (OperandAgrees Defs f) operand_decides as'

  pub step_decides : (s : Step) → Decides (step_agrees (typing_of m f) f.result s) (StepAgrees Defs f s)
  step_decides (Does i) = and_then (list_all (operand_agrees (typing_of m f)) (op_operands i.op)) (fits_op (typing_of m f) i.op) (all_decide (op_operands i.op)) (op_decides i.op)
  step_decides (Ends b) = and_then (list_all (operand_agrees (typing_of m f)) (end_operands b.end)) (fits_end f.result b.end) (all_decide (end_operands b.end)) (end_decides b.end)

  func_decides : Decides (has_good_types f) (HasGoodTypes f)
  func_decides = Decides-and (is_result_type f.result) (list_all is_good_param f.params) (result_decides f.result) (each is_good_param (λ (q : Param). IsScalar q.ty) (λ (q : Param). scalar_decides q.ty) f.params)

  -- ---- the places

  abbrev Bad : Step → Bool
  Bad s = not (step_agrees (typing_of m f) f.result s)

  bad_decides : (s : Step) → Decides (Bad s) (StepAgrees Defs f s → ⊥)
  bad_decides s = Decides-not (step_agrees (typing_of m f) f.result s) (step_decides s)

  abbrev Own : List Place
  Own = place_if (not (has_good_types f)) f.place

  of_own : (p : Place) → Has Own p → (f.place ≡ p) × (HasGoodTypes f → ⊥)
  of_own p h = by_test (not (has_good_types f)) (Decides-not (has_good_types f) func_decides) h
    where
      by_test : (t : Bool) → Decides t (HasGoodTypes f → ⊥) → Has (place_if t f.place) p → (f.place ≡ p) × (HasGoodTypes f → ⊥)
      by_test true d (inl e) = (e, d.0 refl)
      by_test true d (inr g) = absurd g
      by_test false d g = absurd g

  to_own : (p : Place) → f.place ≡ p → (HasGoodTypes f → ⊥) → Has Own p
  to_own p e bad = subst (λ (t : Bool). Has (place_if t f.place) p) (sym ((Decides-not (has_good_types f) func_decides).1 bad)) (inl e)

  pub types_found : IsFound (BreaksTypes m f) (earliest None (type_faults (typing_of m f) f))
  types_found =
      subst (λ (ps : List Place). IsFound (BreaksTypes m f) (earliest None (Own ++ ps))) (sym (step_places Bad f.blocks))
      (found (BreaksTypes m f) (Own ++ places Bad place_of (steps f)) (λ p h. of_either p (has_in Own (places Bad place_of (steps f)) p h)) to_either)
    where
      of_either : (p : Place) → Has Own p ⊎ Has (places Bad place_of (steps f)) p → BreaksTypes m f p
      of_either p (inl g) = inl (of_own p g)
      of_either p (inr g) = let r = fault_has Bad place_of (steps f) p g in inr (r.0, contains (steps f) r.0 r.1, r.2, (bad_decides r.0).0 r.3)

      to_either : (p : Place) → BreaksTypes m f p → Has (Own ++ places Bad place_of (steps f)) p
      to_either p (inl b) = has_left Own (places Bad place_of (steps f)) p (to_own p b.0 b.1)
      to_either p (inr s) =
          has_right Own (places Bad place_of (steps f)) p
          (subst (Has (places Bad place_of (steps f))) s.2 (has_fault Bad place_of (steps f) s.0 (has (steps f) s.0 s.1) ((bad_decides s.0).1 s.3)))
