-- In a module that meets the rules of type names and of sizes, the constants of a function that meets those of types and of
-- constants have offsets that can be told.
use Rattle.std.proofs.Common.{◌≡◌, inl, inr, refl, sym, ap, ◌∙◌, subst, Bool, true, false, ℕ, zero, suc, ◌<◌, List, [], ◌∷◌, ◌++◌, map, length, Option, Some, None, slice_index_or, All, Contains, arith}
use Rattle.std.specs.Prelude.{IsTrue, is_some}
use Rattle.std.specs.Bool.{Decides}
use Rattle.std.specs.List.{flat_map}
use Rattle.std.specs.Option.{option_map_or}
use Rattle.oi_base.specs.declared.ids.Place.{Place}
use Rattle.ir_core.specs.declared.ty.TypeName.{TypeName}
use Rattle.ir_core.specs.declared.ty.TypeDef.{TypeDef}
use Rattle.ir_core.specs.declared.ty.IrType.{IrType, Void, Int, Ptr, Array', Struct', Named, Row_of-IrType, end_of-IrType, more_of-IrType}
use Rattle.ir_core.specs.declared.ty.IrType.TheOpen.{IrType-F}
use Rattle.ir_core.specs.declared.ty.IrType.TheViews.{out-IrType, outs-Named}
use Rattle.ir_core.specs.declared.module.GlobalVar.{GlobalVar}
use Rattle.ir_core.specs.declared.module.SymId.{SymId}
use Rattle.ir_core.specs.declared.module.Module.{Module}
use Rattle.ir_core.specs.declared.constant.Const.{Const}
use Rattle.ir_core.specs.declared.constant.Const as consts
use Rattle.ir_core.specs.declared.constant.TypedCount.{TypedCount}
use Rattle.ir_core.specs.declared.op.Operand.{Operand}
use Rattle.ir_core.specs.declared.op.Operand.TheVariants as operands
use Rattle.ir_core.specs.declared.op.Pair.{Pair}
use Rattle.ir_core.specs.declared.op.Op.{Op}
use Rattle.ir_core.specs.declared.op.Op.TheVariants.{Bin, Icmp, Select, Cast, Alloca, Load, Store, Gep, Phi, Call}
use Rattle.ir_core.specs.declared.func.Instr.{Instr}
use Rattle.ir_core.specs.declared.func.Block.{Block}
use Rattle.ir_core.specs.declared.func.Func.{Func}
use Rattle.ir_core.specs.Parts.{names_in_type, const_types, operand_consts, op_values}
use Rattle.ir_core.specs.Sizes.{definition, resolved, IsLaid}
use Rattle.ir_core.specs.Acyclic.{HasNoVoid, HaveNoVoid, HoldsItself, IsAcyclic}
use Rattle.ir_core.specs.Operands.{Step, Does, Ends, steps, block_steps, typed, operands_of}
use Rattle.ir_core.specs.ValidTypes.{value_use, value_uses, op_uses, types_in_values, step_uses, func_uses, type_uses, BreaksTypeNames, const_sources, op_sized, step_sized, IsTooLarge, BreaksSizes}
use Rattle.ir_core.specs.ValidOps.{OperandAgrees, StepAgrees, OperandFits, BreaksTypes, BreaksConstants}
use Rattle.ir_core.proofs.Lists.{Has, has_left, has_right, has_part, has_at, contains}
use Rattle.ir_core.proofs.Names.{defined}
use Rattle.ir_core.proofs.AcyclicLemmas.{acyclic_laid}
use Rattle.ir_verifier.specs.TypeFaults.{step_agrees, typing_of}
use Rattle.ir_verifier.specs.Faults.{operand_fits}
use Rattle.ir_verifier.specs.PhiFaults.{IsMeasured, AreMeasured, IsMeasuredBlock, IsMeasuredFunc}
use Rattle.module_rules.proofs.Decided.{false_is_not_true}
use Rattle.module_rules.proofs.Faulty.{has}
use Rattle.ir_verifier.proofs.ConstantLaws.{operand_decides}
use Rattle.ir_verifier.proofs.TypesFound.{step_decides}

-- ---- lists

index_has : {A : Type 0} (xs : List A) (k : ℕ) (d : A) → k < length xs → Has xs (slice_index_or xs k d)
index_has [] k d lt = absurd (omega (arith, lt))
index_has (x ∷ xs) zero d lt = inl refl
index_has (x ∷ xs) (suc k) d lt = inr (index_has xs k d (omega (arith, lt)))

each_has : {A : Type 0} (P : A → Type 0) (xs : List A) → ((x : A) → Has xs x → P x) → All P xs
each_has P xs all = λ k x lt. all (slice_index_or xs k x) (index_has xs k x lt)

has_each : {A : Type 0} (P : A → Type 0) (xs : List A) (x : A) → All P xs → Has xs x → P x
has_each P [] x all h = absurd h
has_each P (y ∷ ys) x all (inl e) = subst P e (all 0 y (omega arith))
has_each P (y ∷ ys) x all (inr h) = has_each P ys x (λ k d lt. all (suc k) d (omega (arith, lt))) h

has_map : {A B : Type 0} (g : A → B) (xs : List A) (x : A) → Has xs x → Has (map g xs) (g x)
has_map g [] x h = absurd h
has_map g (y ∷ ys) x (inl e) = inl (ap g e)
has_map g (y ∷ ys) x (inr h) = inr (has_map g ys x h)

-- what isn't false of something that is decided is true
decided : {P : Type 0} (t : Bool) → Decides t P → ((P → ⊥) → ⊥) → P
decided true d twice = d.0 refl
decided false d twice = absurd (twice (λ p. false_is_not_true (d.1 p)))

-- ---- `void`

mutual
  no_void : (t : IrType) → ((HasNoVoid t → ⊥) → ⊥) → HasNoVoid t
  no_void Void twice = absurd (twice (λ v. v))
  no_void (Int w) twice = tt
  no_void Ptr twice = tt
  no_void (Array' n _ items) twice = none_void items twice
  no_void (Struct' _ fields) twice = none_void fields twice
  no_void (Named x) twice = tt

  none_void : {m : _} (ts : Row_of-IrType m) → ((HaveNoVoid ts → ⊥) → ⊥) → HaveNoVoid ts
  none_void end_of-IrType twice = tt
  none_void (more_of-IrType t ts) twice = (no_void t (λ no. twice (λ h. no h.0)), none_void ts (λ no. twice (λ h. no h.1)))

-- ---- types of a module that meets the rule of type names

module _ (m : Module) (names : (p : Place) → BreaksTypeNames m p → ⊥) where
  abbrev Defs : List TypeDef
  Defs = m.types.defs

  abbrev among : TypeName → Bool
  among x = is_some (definition Defs x)

  use_no_void : (p : Place) (t : IrType) → Has (type_uses m) (value_use p t) → HasNoVoid t
  use_no_void p t h = no_void t (λ no. names p (inl (value_use p t, contains (type_uses m) (value_use p t) h, refl, (no, λ r. false_is_not_true r.0))))

  -- a name without a definition stands for no struct
  not_struct : (n : ℕ) (x : TypeName) (fields : List IrType) → definition Defs x ≡ None → out-IrType (resolved n Defs (Named x)) ≡ IrType-F.Struct fields → ⊥
  not_struct zero x fields e s = let clash : IrType-F.Named x ≡ IrType-F.Struct fields = sym (outs-Named x) ∙ s in cc
  not_struct (suc n) x fields e s =
      let clash : IrType-F.Named x ≡ IrType-F.Struct fields = sym (outs-Named x) ∙ ap (λ (o : Option TypeDef). out-IrType (option_map_or (λ (d : TypeDef). resolved n Defs d.ty) o (Named x))) (sym e) ∙ s in cc

  use_defined : (p : Place) (t : IrType) → Has (type_uses m) (value_use p t) → (x : TypeName) → Contains (names_in_type t) x → IsTrue (among x)
  use_defined p t h x c = by_definition (definition Defs x) refl
    where
      by_definition : (o : Option TypeDef) → definition Defs x ≡ o → IsTrue (is_some o)
      by_definition (Some d) e = refl
      by_definition None e = absurd (names p (inr (inl (value_use p t, contains (type_uses m) (value_use p t) h, refl, (x, c, λ s. not_struct (length Defs) x s.0 e s.1)))))

  def_use : (d : TypeDef) → Has Defs d → Has (type_uses m) (value_use d.place d.ty)
  def_use d h =
      has_left (map (λ (e : TypeDef). value_use e.place e.ty) Defs ++ flat_map (λ (g : GlobalVar). value_uses g.place (g.ty ∷ const_types g.init)) m.globals) (flat_map func_uses m.funcs) (value_use d.place d.ty)
      (has_left (map (λ (e : TypeDef). value_use e.place e.ty) Defs) (flat_map (λ (g : GlobalVar). value_uses g.place (g.ty ∷ const_types g.init)) m.globals) (value_use d.place d.ty)
      (has_map (λ (e : TypeDef). value_use e.place e.ty) Defs d h))

  some_of : (o : Option TypeDef) → IsTrue (is_some o) → (d : TypeDef) × (o ≡ Some d)
  some_of None s = cc
  some_of (Some d) s = (d, refl)

  acyclic : IsAcyclic Defs among
  acyclic = record { defined = λ x is. all_of x (some_of (definition Defs x) is); no_cycle = λ x is h. none x (some_of (definition Defs x) is) h }
    where
      all_of : (x : TypeName) → (d : TypeDef) × (definition Defs x ≡ Some d) → (d : TypeDef) × (definition Defs x ≡ Some d) × HasNoVoid d.ty × ((y : TypeName) → Contains (names_in_type d.ty) y → IsTrue (among y))
      all_of x d =
          let at = defined Defs x d.0 d.1 in
          let stands = def_use d.0 (has_at Defs at.0 d.0 at.1) in
          (d.0, d.1, use_no_void d.0.place d.0.ty stands, use_defined d.0.place d.0.ty stands)

      none : (x : TypeName) → (d : TypeDef) × (definition Defs x ≡ Some d) → HoldsItself Defs x → ⊥
      none x d h =
          let at = defined Defs x d.0 d.1 in
          names d.0.place (inr (inr (inr (d.0, contains Defs d.0 (has_at Defs at.0 d.0 at.1), refl, subst (HoldsItself Defs) (sym at.2) h))))

  -- each type that stands as that of a value is laid out
  pub use_laid : (p : Place) (t : IrType) → Has (type_uses m) (value_use p t) → IsLaid Defs t
  use_laid p t h = acyclic_laid Defs among acyclic t (use_no_void p t h) (use_defined p t h)

-- ---- constants of phis

module _ (m : Module) (f : Func) (inside : Contains m.funcs f) (names : (p : Place) → BreaksTypeNames m p → ⊥) (sizes : (p : Place) → BreaksSizes m p → ⊥) (types : (p : Place) → BreaksTypes m f p → ⊥) (constants : (p : Place) → BreaksConstants f p → ⊥) where
  -- an entry of a phi of the function
  module _ (b : Block) (i : Instr) (t : IrType) (es : List Pair) (e : Pair) (in_func : Has f.blocks b) (in_block : Has b.code i) (is : i.op ≡ Phi t es) (in_phi : Has es e) where
    abbrev step : Step
    step = Does i

    is_step : Has (steps f) step
    is_step = has_part block_steps f.blocks b step in_func (has_left (map (λ (j : Instr). Does j) b.code) (Ends b ∷ []) step (has_map (λ (j : Instr). Does j) b.code i in_block))

    operand : Has (operands_of step) (typed t e.value)
    operand = subst (λ (op : Op). Has (operands_of (Does (record { place = i.place; result = i.result; op = op }))) (typed t e.value)) (sym is) (has_map (λ (k : Pair). typed t k.value) es e in_phi)

    agrees : OperandAgrees m.types.defs f (typed t e.value)
    agrees =
        let all : StepAgrees m.types.defs f step = decided (step_agrees (typing_of m f) f.result step) (step_decides m f step) (λ no. types i.place (inr (step, contains (steps f) step is_step, refl, no))) in
        has_each (OperandAgrees m.types.defs f) (operands_of step) (typed t e.value) all.0 operand

    fits : OperandFits (typed t e.value)
    fits =
        decided (operand_fits (typed t e.value)) (operand_decides (typed t e.value)) (λ no.
        constants i.place (step, contains (steps f) step is_step, refl, λ all. no (has_each OperandFits (operands_of step) (typed t e.value) all.0 operand)))

    module _ (source : IrType) (s : SymId) (indices : List TypedCount) (v : e.value ≡ operands.Const (consts.Gep source s indices)) where
      value : Has (op_values i.op) (operands.Const (consts.Gep source s indices))
      value = subst (λ (op : Op). Has (op_values op) (operands.Const (consts.Gep source s indices))) (sym is) (subst (Has (map (λ (k : Pair). k.value) es)) v (has_map (λ (k : Pair). k.value) es e in_phi))

      constant : Has (flat_map operand_consts (op_values i.op)) (consts.Gep source s indices)
      constant = has_part operand_consts (op_values i.op) (operands.Const (consts.Gep source s indices)) (consts.Gep source s indices) value (inl refl)

      type_use : Has (type_uses m) (value_use i.place source)
      type_use =
          has_right (map (λ (d : TypeDef). value_use d.place d.ty) m.types.defs ++ flat_map (λ (g : GlobalVar). value_uses g.place (g.ty ∷ const_types g.init)) m.globals) (flat_map func_uses m.funcs) (value_use i.place source)
          (has_part func_uses m.funcs f (value_use i.place source) (has m.funcs f inside)
          (inr (has_right (value_uses f.place (map (λ q. q.ty) f.params)) (flat_map step_uses (steps f)) (value_use i.place source)
          (has_part step_uses (steps f) step (value_use i.place source) is_step
          (has_right (op_uses i.place i.op) (value_uses i.place (types_in_values (op_values i.op))) (value_use i.place source)
          (has_map (value_use i.place) (types_in_values (op_values i.op)) source
          (has_part const_types (flat_map operand_consts (op_values i.op)) (consts.Gep source s indices) source constant (inl refl))))))))

      sized : Has (step_sized step) source
      sized =
          has_right (op_sized i.op) (flat_map const_sources (flat_map operand_consts (op_values i.op))) source
          (has_part const_sources (flat_map operand_consts (op_values i.op)) (consts.Gep source s indices) source constant (inl refl))

      small : IsTooLarge m.types.defs source → ⊥
      small big = sizes i.place (inr (f, inside, inl (step, contains (steps f) step is_step, refl, (source, contains (step_sized step) source sized, big))))

      known : IsMeasured m.types.defs (operands.Const (consts.Gep source s indices))
      known =
          let a = subst (λ (w : Operand). OperandAgrees m.types.defs f (typed t w)) v agrees in
          let g = subst (λ (w : Operand). OperandFits (typed t w)) v fits in
          (use_laid m names i.place source type_use, small, a.1.1, g)

    entry_measured : IsMeasured m.types.defs e.value
    entry_measured = by_value e.value refl
      where
        by_const : (c : Const) → e.value ≡ operands.Const c → IsMeasured m.types.defs (operands.Const c)
        by_const (consts.Gep source s indices) v = known source s indices v
        by_const (consts.Int n) v = tt
        by_const (consts.Bool k) v = tt
        by_const consts.Null v = tt
        by_const consts.Undef v = tt
        by_const consts.Poison v = tt
        by_const consts.Zero v = tt
        by_const (consts.Bytes bs) v = tt
        by_const (consts.Address s) v = tt
        by_const (consts.Array' l items) v = tt
        by_const (consts.Struct' l fields) v = tt

        by_value : (w : Operand) → e.value ≡ w → IsMeasured m.types.defs w
        by_value (operands.Local x) v = tt
        by_value (operands.Const c) v = by_const c v

  op_measured : (b : Block) (i : Instr) → Has f.blocks b → Has b.code i → (op : Op) → i.op ≡ op → AreMeasured m.types.defs op
  op_measured b i h g (Phi t es) is = each_has (λ (e : Pair). IsMeasured m.types.defs e.value) es (λ e k. entry_measured b i t es e h g is k)
  op_measured b i h g (Bin op t x y) is = tt
  op_measured b i h g (Icmp c t x y) is = tt
  op_measured b i h g (Select c x y) is = tt
  op_measured b i h g (Cast c a t) is = tt
  op_measured b i h g (Alloca t count align) is = tt
  op_measured b i h g (Load t a align) is = tt
  op_measured b i h g (Store a p align) is = tt
  op_measured b i h g (Gep t a is') is = tt
  op_measured b i h g (Call t k as') is = tt

  pub measured : IsMeasuredFunc m.types.defs f
  measured = each_has (IsMeasuredBlock m.types.defs) f.blocks (λ b h. each_has (λ (i : Instr). AreMeasured m.types.defs i.op) b.code (λ i g. op_measured b i h g i.op refl))
