-- A function of a proper and valid module asks for sizes and offsets of types alone that can be told.
use Rattle.std.proofs.Common.{◌≡◌, inl, inr, ⊎_elim, ℕ, ◌*◌, ◌≤◌, ℤ, pos, negsuc, unsigned_abs, List, ◌∷◌, ◌++◌, map, Some, None, slice_get, All, Contains, refl, sym, subst, arith}
use Rattle.std.specs.List.{flat_map}
use Rattle.std.proofs.lemmas.Bool.{cases_lt}
use Rattle.std.proofs.Math.Nat.{mul_comm}
use Rattle.std.proofs.lemmas.List.Elements.{All-contains, All-from_recursion}
use Rattle.oi_base.specs.declared.ids.Place.{Place}
use Rattle.ir_core.specs.declared.limits.TheConstants.{LARGEST}
use Rattle.ir_core.specs.declared.ty.TypeDef.{TypeDef}
use Rattle.ir_core.specs.declared.ty.IrType.{IrType}
use Rattle.ir_core.specs.declared.constant.Const.{Const}
use Rattle.ir_core.specs.declared.constant.Const as consts
use Rattle.ir_core.specs.declared.constant.TypedCount.{TypedCount}
use Rattle.ir_core.specs.declared.module.SymId.{SymId}
use Rattle.ir_core.specs.declared.module.GlobalVar.{GlobalVar}
use Rattle.ir_core.specs.declared.module.Module.{Module}
use Rattle.ir_core.specs.declared.op.Operand.{Operand}
use Rattle.ir_core.specs.declared.op.Operand.TheVariants as operands
use Rattle.ir_core.specs.declared.op.TypedOperand.{TypedOperand}
use Rattle.ir_core.specs.declared.op.Pair.{Pair}
use Rattle.ir_core.specs.declared.op.SwitchCase.{SwitchCase}
use Rattle.ir_core.specs.declared.op.Op.{Op}
use Rattle.ir_core.specs.declared.op.Op.TheVariants.{Bin, Icmp, Select, Cast, Alloca, Load, Store, Gep, Phi, Call}
use Rattle.ir_core.specs.declared.op.End.{End}
use Rattle.ir_core.specs.declared.op.End.TheVariants.{Ret, Br, Cond, Switch, Unreachable}
use Rattle.ir_core.specs.declared.func.Instr.{Instr}
use Rattle.ir_core.specs.declared.func.Block.{Block}
use Rattle.ir_core.specs.declared.func.Func.{Func}
use Rattle.ir_core.specs.declared.func.Param.{Param}
use Rattle.ir_core.specs.Parts.{instrs, op_values, end_types, end_values, operand_consts, const_types}
use Rattle.ir_core.specs.Sizes.{IsLaid, size}
use Rattle.ir_core.specs.Operands.{Step, Does, Ends, steps, place_of}
use Rattle.ir_core.specs.Instructions.{count_of}
use Rattle.ir_core.specs.Proper.{IsCount, HasItsCount, IsProper, IsProperFunc}
use Rattle.ir_core.specs.Valid.{IsValid}
use Rattle.ir_core.specs.ValidTypes.{value_use, value_uses, op_uses, types_in_values, step_uses, func_uses, type_uses, const_sources, sources_in_values, op_sized, step_sized, IsTooLarge, MakesTooMuch}
use Rattle.ir_core.proofs.Lists.{Has, each_from, has_right, has_part, has_at, has_mapped, contains, all_at}
use Rattle.module_rules.proofs.LaidUses.{use_laid}
use Rattle.module_rules.proofs.InnerTypes.{small_size}
use Rattle.ir_safety.proofs.PlainSources.{is_instr, does, ends}
use Rattle.site_inliner.specs.Measured.{IsMeasured, IsMeasuredConst, IsMeasuredValue, IsMeasuredOp, IsMeasuredEnd, IsMeasuredBlock, IsMeasuredFunc}

-- ---- the source type of a constant `getelementptr` among values

type_there : (vs : List Operand) (t : IrType) (s : SymId) (is : List TypedCount) → Has vs (operands.Const (consts.Gep t s is)) → Has (types_in_values vs) t
type_there vs t s is h =
    has_part const_types (flat_map operand_consts vs) (consts.Gep t s is) t (has_part operand_consts vs (operands.Const (consts.Gep t s is)) (consts.Gep t s is) h (inl refl)) (inl refl)

source_there : (vs : List Operand) (t : IrType) (s : SymId) (is : List TypedCount) → Has vs (operands.Const (consts.Gep t s is)) → Has (sources_in_values vs) t
source_there vs t s is h =
    has_part const_sources (flat_map operand_consts vs) (consts.Gep t s is) t (has_part operand_consts vs (operands.Const (consts.Gep t s is)) (consts.Gep t s is) h (inl refl)) (inl refl)

-- each element, where what it is mapped to is
each_mapped_to : {A B : Type 0} (P : B → Type 0) (g : A → B) (xs : List A) → ((y : B) → Has (map g xs) y → P y) → All (λ (x : A). P (g x)) xs
each_mapped_to {A} P g xs all = All-from_recursion (λ (x : A). P (g x)) xs (each_from (λ (x : A). P (g x)) xs (λ x h. all (g x) (has_mapped g xs x h)))

-- ---- what a value, an instruction and a terminator ask for, where each of their values does

module _ (defs : List TypeDef) where
  abbrev EachValue : List Operand → Type 0
  EachValue vs = (v : Operand) → Has vs v → IsMeasuredValue defs v

  abbrev Sized : Op → Type 0
  Sized (Alloca t count stated) = size defs t * count_of count ≤ LARGEST
  Sized (Gep t a is) = IsMeasured defs t
  Sized _ = Unit {0}

  op_is : (op : Op) → EachValue (op_values op) → Sized op → IsMeasuredOp defs op
  op_is (Bin op t a b) h k = (h a (inl refl), h b (inr (inl refl)))
  op_is (Icmp c t a b) h k = (h a (inl refl), h b (inr (inl refl)))
  op_is (Select c a b) h k = (h c.value (inl refl), h a.value (inr (inl refl)), h b.value (inr (inr (inl refl))))
  op_is (Cast c a t) h k = h a.value (inl refl)
  op_is (Alloca t count stated) h k = k
  op_is (Load t a stated) h k = h a.value (inl refl)
  op_is (Store a p stated) h k = (h a.value (inl refl), h p.value (inr (inl refl)))
  op_is (Gep t a is) h k = (k, h a.value (inl refl), each_mapped_to (IsMeasuredValue defs) (λ (b : TypedOperand). b.value) is (λ v g. h v (inr g)))
  op_is (Phi t es) h k = each_mapped_to (IsMeasuredValue defs) (λ (e : Pair). e.value) es h
  op_is (Call t s as') h k = each_mapped_to (IsMeasuredValue defs) (λ (b : TypedOperand). b.value) as' h

  end_is : (e : End) → EachValue (end_values e) → IsMeasuredEnd defs e
  end_is (Ret None) h = tt
  end_is (Ret (Some a)) h = h a.value (inl refl)
  end_is (Br b) h = tt
  end_is (Cond c t f) h = h c.value (inl refl)
  end_is (Switch a other cases) h = (h a.value (inl refl), each_mapped_to (IsMeasuredValue defs) (λ (c : SwitchCase). c.value.value) cases (λ v g. h v (inr g)))
  end_is Unreachable h = tt

-- ---- a function of a proper and valid module

module _ (m : Module) (g : ℕ) (f : Func) (proper : IsProper m) (valid : IsValid m) (found : slice_get m.funcs g ≡ Some f) where
  abbrev Defs : List TypeDef
  Defs = m.types.defs

  proper_func : IsProperFunc f
  proper_func = all_at IsProperFunc m.funcs g f proper.each_func found

  inside : Contains m.funcs f
  inside = contains m.funcs f (has_at m.funcs g f found)

  is_small : (s : Step) (t : IrType) → Has (steps f) s → Has (step_sized s) t → IsTooLarge Defs t → ⊥
  is_small s t h k big = valid.sizes (place_of s) (inr (f, inside, inl (s, contains (steps f) s h, refl, (t, contains (step_sized s) t k, big))))

  is_laid : (s : Step) (p : Place) (t : IrType) → Has (steps f) s → Has (step_uses s) (value_use p t) → IsLaid Defs t
  is_laid s p t h k =
      use_laid m valid.type_names (value_use p t)
      (contains (type_uses m) (value_use p t)
      (has_right (map (λ (d : TypeDef). value_use d.place d.ty) m.types.defs ++ flat_map (λ (x : GlobalVar). value_uses x.place (x.ty ∷ const_types x.init)) m.globals) (flat_map func_uses m.funcs) (value_use p t)
      (has_part func_uses m.funcs f (value_use p t) (has_at m.funcs g f found)
      (inr (has_right (value_uses f.place (map (λ (q : Param). q.ty) f.params)) (flat_map step_uses (steps f)) (value_use p t)
      (has_part step_uses (steps f) s (value_use p t) h k))))))
      refl

  value_is : (s : Step) (p : Place) (vs : List Operand) → Has (steps f) s → ((t : IrType) → Has (types_in_values vs) t → Has (step_uses s) (value_use p t)) → ((t : IrType) → Has (sources_in_values vs) t → Has (step_sized s) t)
      → (v : Operand) → Has vs v → IsMeasuredValue Defs v
  value_is s p vs h uses sized (operands.Local x) k = tt
  value_is s p vs h uses sized (operands.Const c) k = by c k
    where
      by : (c : Const) → Has vs (operands.Const c) → IsMeasuredConst Defs c
      by (consts.Gep t x is) k = (is_laid s p t h (uses t (type_there vs t x is k)), is_small s t h (sized t (source_there vs t x is k)))
      by (consts.Int n) k = tt
      by (consts.Bool b) k = tt
      by consts.Null k = tt
      by consts.Undef k = tt
      by consts.Poison k = tt
      by consts.Zero k = tt
      by (consts.Bytes bs) k = tt
      by (consts.Address x) k = tt
      by (consts.Array' l items) k = tt
      by (consts.Struct' l items) k = tt

  module _ (b : Block) (here : Has f.blocks b) where
    module _ (i : Instr) (in_block : Has b.code i) where
      is_step : Has (steps f) (Does i)
      is_step = does f b here i in_block

      values : (v : Operand) → Has (op_values i.op) v → IsMeasuredValue Defs v
      values =
          value_is (Does i) i.place (op_values i.op) is_step
          (λ t h. has_right (op_uses i.place i.op) (value_uses i.place (types_in_values (op_values i.op))) (value_use i.place t) (has_mapped (value_use i.place) (types_in_values (op_values i.op)) t h))
          (λ t h. has_right (op_sized i.op) (sources_in_values (op_values i.op)) t h)

      count_is : HasItsCount i.op
      count_is = All-contains (λ (j : Instr). HasItsCount j.op) (instrs f) i proper_func.counts (is_instr f b here i in_block)

      much : MakesTooMuch Defs i → ⊥
      much bad = valid.sizes i.place (inr (f, inside, inr (i, is_instr f b here i in_block, refl, bad)))

      op_size : (op : Op) → i.op ≡ op → HasItsCount op → Sized Defs op
      op_size (Alloca t None stated) e c =
          let le = small_size Defs t (is_small (Does i) t is_step (subst (λ (o : Op). Has (op_sized o ++ sources_in_values (op_values o)) t) (sym e) (inl refl))) in
          omega (arith, le)
      op_size (Alloca t (Some n) stated) e c = counted n.count refl c
        where
          counted : (z : ℤ) → n.count ≡ z → IsCount z → size Defs t * unsigned_abs z ≤ LARGEST
          counted (pos k) same h =
              let bound : k * size Defs t ≤ LARGEST = ⊎_elim (λ big. absurd (much (t, n, stated, k, e, same, big))) (λ le. le) (cases_lt LARGEST (k * size Defs t)) in
              subst (λ (x : ℕ). x ≤ LARGEST) (mul_comm k (size Defs t)) bound
          counted (negsuc k) same h = absurd h
      op_size (Gep t a is) e c = (
        is_laid (Does i) i.place t is_step (subst (λ (o : Op). Has (op_uses i.place o ++ value_uses i.place (types_in_values (op_values o))) (value_use i.place t)) (sym e) (inl refl)),
        is_small (Does i) t is_step (subst (λ (o : Op). Has (op_sized o ++ sources_in_values (op_values o)) t) (sym e) (inl refl)),
      )
      op_size (Bin op t a b) e c = tt
      op_size (Icmp x t a b) e c = tt
      op_size (Select x a b) e c = tt
      op_size (Cast x a t) e c = tt
      op_size (Load t a stated) e c = tt
      op_size (Store a p stated) e c = tt
      op_size (Phi t es) e c = tt
      op_size (Call t s as') e c = tt

      instr_is : IsMeasuredOp Defs i.op
      instr_is = op_is Defs i.op values (op_size i.op refl count_is)

    block_is : IsMeasuredBlock Defs b
    block_is = (
      All-from_recursion (λ (i : Instr). IsMeasuredOp Defs i.op) b.code (each_from (λ (i : Instr). IsMeasuredOp Defs i.op) b.code instr_is),
      end_is Defs b.end (value_is (Ends b) b.end_place (end_values b.end) (ends f b here)
          (λ t h. has_mapped (value_use b.end_place) (end_types b.end ++ types_in_values (end_values b.end)) t (has_right (end_types b.end) (types_in_values (end_values b.end)) t h)) (λ t h. h)),
    )

  pub measured : IsMeasuredFunc Defs f
  measured = All-from_recursion (IsMeasuredBlock Defs) f.blocks (each_from (IsMeasuredBlock Defs) f.blocks block_is)
