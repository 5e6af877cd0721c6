-- The operands of a plain body: each register among them is a parameter or written, and each address is that of a global variable.
use Rattle.std.proofs.Common.{◌≡◌, ◌⊎◌, inl, inr, ℕ, ◌<◌, List, [], ◌∷◌, ◌++◌, map, length, Some, slice_get, All, Contains, refl, sym, subst}
use Rattle.std.specs.List.{flat_map, filter_map, AllByRecursion as Each}
use Rattle.std.proofs.lemmas.Bool.{cases_eq}
use Rattle.std.proofs.lemmas.List.Folds.{flat_map-map}
use Rattle.std.proofs.lemmas.List.Elements.{All-from_recursion}
use Rattle.ir_core.specs.declared.flat.Scalar.{Scalar}
use Rattle.ir_core.specs.declared.flat.Scalar.TheVariants as scalar
use Rattle.ir_core.specs.declared.flat.FlatOp.{FlatOp}
use Rattle.ir_core.specs.declared.flat.FlatOp.TheVariants.{Poison}
use Rattle.ir_core.specs.declared.flat.Entry.{Entry}
use Rattle.ir_core.specs.declared.flat.Phi.{Phi}
use Rattle.ir_core.specs.declared.flat.FlatInstr.{FlatInstr}
use Rattle.ir_core.specs.declared.ty.IrType.{IrType}
use Rattle.ir_core.specs.declared.constant.Const.{Const}
use Rattle.ir_core.specs.declared.constant.Const as consts
use Rattle.ir_core.specs.declared.module.SymId.{SymId}
use Rattle.ir_core.specs.declared.module.Module.{Module}
use Rattle.ir_core.specs.declared.op.LocalId.{LocalId}
use Rattle.ir_core.specs.declared.op.Operand.{Operand}
use Rattle.ir_core.specs.declared.op.Operand.TheVariants as operands
use Rattle.ir_core.specs.declared.op.TypedOperand.{TypedOperand}
use Rattle.ir_core.specs.declared.func.Block.{Block}
use Rattle.ir_core.specs.declared.func.Func.{Func}
use Rattle.ir_core.specs.Parts.{instrs}
use Rattle.ir_core.specs.Operands.{Step, Does, Ends, steps, place_of, operands_of}
use Rattle.ir_core.specs.Operands.{typed as with_type}
use Rattle.ir_core.specs.Constants.{zero_of, scalar_of, constant, global_number, global_memory}
use Rattle.ir_core.specs.Formed.{used_by, used_at_end, uses, all_uses, all_writes, IsParamOrWritten, NamesGlobal}
use Rattle.ir_core.specs.Instructions.{operand, typed, terminator}
use Rattle.ir_core.specs.Plain.{other_operand, numbers, plain_body}
use Rattle.ir_core.specs.Proper.{IsProper, IsProperFunc}
use Rattle.ir_core.specs.Valid.{IsValid, IsValidFunc}
use Rattle.ir_core.specs.ValidConsts.{IsVariable}
use Rattle.ir_core.specs.ValidFunc.{IsParam, IsRegister, IsKnown}
use Rattle.ir_core.proofs.Lists.{Has, each_of, each_from, has_left, has_right, has_part, has_made, has_mapped, map_source, contains, has_in, all_at}
use Rattle.ir_safety.proofs.Safe.{NotFalse, and_so, in_turn, true_too}
use Rattle.ir_safety.proofs.Elements.{in_part, each_joined}
use Rattle.ir_safety.proofs.Registers.{param_first}
use Rattle.ir_safety.proofs.RowUses.{used_other, end_used_other, HasRow, result_row}
use Rattle.ir_safety.proofs.Decided.{so, is_less, is_contained, either}
use Rattle.ir_safety.proofs.GlobalPointers.{variable_number}
use Rattle.ir_safety.proofs.PlainEdges.{row}
use Rattle.ir_safety.proofs.PlainRows.{instr_row, phi_row, IsOneOf, row_is, end_among}
use Rattle.ir_safety.proofs.PlainSources.{does, ends, code_source, source_of, pair_of, value_of}
use Rattle.ir_safety.proofs.FormedNumbers.{phi_names, row_names, written_names, all_named, writes_all}

-- ---- lists

each_made : {A B : Type 0} (P : B → Type 0) (g : A → B) (xs : List A) → ((x : A) → Has xs x → P (g x)) → Each P (map g xs)
each_made P g xs h = each_from P (map g xs) (λ y k. let x = map_source g xs y k in subst P x.2 (h x.0 x.1))

each_in_parts : {A B : Type 0} (P : B → Type 0) (g : A → List B) (xs : List A) → ((x : A) → Has xs x → Each P (g x)) → Each P (flat_map g xs)
each_in_parts P g xs h = each_from P (flat_map g xs) (λ y k. let x = in_part g xs y k in each_of P (g x.0) y (h x.0 x.1) x.2)

-- ---- what is used comes from an operand of an instruction or a terminator

module _ (m : Module) (f : Func) (P : FlatOp → Type 0) (poison : P Poison)
    (each : (s : Step) (a : TypedOperand) → Has (steps f) s → Has (operands_of s) a → P (other_operand (numbers f) (typed m a))) where
  of_step : (s : Step) → Has (steps f) s → (o : FlatOp) → IsOneOf m (operands_of s) o → P (other_operand (numbers f) o)
  of_step s hs o (inl e) = subst (λ (z : FlatOp). P (other_operand (numbers f) z)) (sym e) poison
  of_step s hs o (inr (a, ha, e)) = subst (λ (z : FlatOp). P (other_operand (numbers f) z)) e (each s a hs ha)

  of_steps : (s : Step) → Has (steps f) s → (os : List FlatOp) → Each (IsOneOf m (operands_of s)) os → Each P (map (other_operand (numbers f)) os)
  of_steps s hs os h = each_made P (other_operand (numbers f)) os (λ o k. of_step s hs o (each_of (IsOneOf m (operands_of s)) os o h k))

  module _ (b : Block) (here : Has f.blocks b) where
    by_end : Each P (used_at_end (row m f b).end)
    by_end =
        subst (Each P) (sym (end_used_other (numbers f) (terminator m b.end)))
        (of_steps (Ends b) (ends f b here) (used_at_end (terminator m b.end)) (end_among m b.end))

    by_code : Each P (flat_map used_by (row m f b).code)
    by_code = each_in_parts P used_by (row m f b).code (λ z h.
        let s = code_source m f b z h in
        subst (λ (v : FlatInstr). Each P (used_by v)) s.4
        (subst (Each P) (sym (used_other (numbers f) s.1))
        (of_steps (Does s.0) (does f b here s.0 s.2) (used_by s.1) (row_is m s.0.result s.0.op s.1 s.3).1)))

    by_phis : Each P (flat_map (λ (q : Phi). map (λ (e : Entry). e.value) q.entries) (row m f b).phis)
    by_phis = each_in_parts P (λ (q : Phi). map (λ (e : Entry). e.value) q.entries) (row m f b).phis (λ q h.
        let s = source_of m f b q h in
        each_made P (λ (e : Entry). e.value) q.entries (λ e k.
        let p = pair_of m f b q.entries s e k in
        subst (λ (z : Entry). P z.value) p.2
        (each (Does s.instr) (with_type s.ty p.0.value) (does f b here s.instr s.stands) (value_of m f b q.entries s p.0 p.1))))

    abbrev phi_values : List FlatOp
    phi_values = flat_map (λ (q : Phi). map (λ (e : Entry). e.value) q.entries) (row m f b).phis

    abbrev code_values : List FlatOp
    code_values = flat_map used_by (row m f b).code

    by_block : Each P (uses (row m f b))
    by_block = each_joined P (phi_values ++ code_values) (used_at_end (row m f b).end) (each_joined P phi_values code_values by_phis by_code) by_end

  all_used : All P (all_uses (plain_body m f))
  all_used =
      let blocks : Each P (flat_map (λ (b : Block). uses (row m f b)) f.blocks) = each_in_parts P (λ (b : Block). uses (row m f b)) f.blocks by_block in
      subst (All P) (sym (flat_map-map uses (row m f) f.blocks)) (All-from_recursion P (flat_map (λ (b : Block). uses (row m f b)) f.blocks) blocks)

-- ---- registers

module _ (m : Module) (proper : IsProper m) (valid : IsValid m) (g : ℕ) (f : Func) (at : slice_get m.funcs g ≡ Some f) where
  rules : IsValidFunc m f
  rules = all_at (IsValidFunc m) m.funcs g f valid.each_func at

  is_proper : IsProperFunc f
  is_proper = all_at IsProperFunc m.funcs g f proper.each_func at

  known : (s : Step) (a : TypedOperand) → Has (steps f) s → Has (operands_of s) a → NotFalse (IsKnown m f a.value)
  known s a hs ha not = rules.references (place_of s) (s, contains (steps f) s hs, refl, inl (a, contains (operands_of s) a ha, not))

  -- a result is written by a phi or another instruction
  is_written : (x : LocalId) → IsRegister f x → NotFalse (Contains (all_writes (plain_body m f)) ((numbers f).reg x.0))
  is_written x (i, stands, e) = in_turn (result_row m f is_proper rules i x stands e) by_row
    where
      block : (b : Block) × Has f.blocks b × Has b.code i
      block = in_part (λ (b : Block). b.code) f.blocks i (has_in (instrs f) i stands)

      named : HasRow m x i.result i.op → Has (written_names m block.0.code) x.0
      named (inl (q, is, r)) =
          let h = has_mapped (λ (p : Phi). p.reg.0) (filter_map (phi_row m) block.0.code) q (has_made (phi_row m) block.0.code i q block.2 is) in
          has_left (phi_names m block.0.code) (row_names m block.0.code) x.0 (subst (Has (phi_names m block.0.code)) r h)
      named (inr (w, is, r)) =
          let h = has_made (instr_row m) block.0.code i w block.2 is in
          has_right (phi_names m block.0.code) (row_names m block.0.code) x.0 (has_made _ (filter_map (instr_row m) block.0.code) w x.0 h r)

      by_row : HasRow m x i.result i.op → Contains (all_writes (plain_body m f)) ((numbers f).reg x.0)
      by_row h =
          let all : Has (all_named m f) x.0 = has_part (λ (b : Block). written_names m b.code) f.blocks block.0 x.0 block.1 (named h) in
          let there = contains (map (numbers f).reg (all_named m f)) ((numbers f).reg x.0) (has_mapped (numbers f).reg (all_named m f) x.0 all) in
          subst (λ (ys : List ℕ). Contains ys ((numbers f).reg x.0)) (sym (writes_all m f)) there

  -- each register that is used is a parameter or written
  pub used : All (IsParamOrWritten (plain_body m f)) (all_uses (plain_body m f))
  used = all_used m f (IsParamOrWritten (plain_body m f)) tt (λ s a hs ha. by_value a.ty a.value (known s a hs ha))
    where
      by_zero : (s : Scalar) → IsParamOrWritten (plain_body m f) (other_operand (numbers f) (zero_of s))
      by_zero (scalar.Word w) = tt
      by_zero scalar.Pointer = tt

      by_const : (t : IrType) (c : Const) → IsParamOrWritten (plain_body m f) (other_operand (numbers f) (constant m t c))
      by_const t (consts.Int n) = tt
      by_const t (consts.Bool b) = tt
      by_const t consts.Null = tt
      by_const t consts.Undef = by_zero (scalar_of t)
      by_const t consts.Poison = tt
      by_const t consts.Zero = tt
      by_const t (consts.Bytes bs) = tt
      by_const t (consts.Address s) = tt
      by_const t (consts.Gep source s is) = tt
      by_const t (consts.Array' n items) = tt
      by_const t (consts.Struct' n items) = tt

      by_value : (t : IrType) (v : Operand) → NotFalse (IsKnown m f v) → IsParamOrWritten (plain_body m f) (other_operand (numbers f) (operand m t v))
      by_value t (operands.Const c) h = by_const t c
      by_value t (operands.Local x) h = so (either (is_less ((numbers f).reg x.0) (length f.params)) (is_contained cases_eq (all_writes (plain_body m f)) ((numbers f).reg x.0))) (and_so h param_or_register)
        where
          param_or_register : IsParam f x ⊎ IsRegister f x → NotFalse (((numbers f).reg x.0 < length f.params) ⊎ Contains (all_writes (plain_body m f)) ((numbers f).reg x.0))
          param_or_register (inl q) = true_too (inl (param_first f x q))
          param_or_register (inr i) = in_turn (is_written x i) (λ w. inr w)

  -- ---- addresses

  names_global : (s : SymId) → NotFalse (IsVariable m s) → global_number m s < length (global_memory m)
  names_global s h = so (is_less (global_number m s) (length (global_memory m))) (in_turn h (variable_number m s))

  -- each address that is used is that of a global variable
  pub addresses : All (NamesGlobal (length (global_memory m))) (all_uses (plain_body m f))
  addresses = all_used m f Names tt (λ s a hs ha. by_value a.ty a.value (known s a hs ha))
    where
      Names : FlatOp → Type 0
      Names o = NamesGlobal (length (global_memory m)) o

      by_zero : (s : Scalar) → Names (other_operand (numbers f) (zero_of s))
      by_zero (scalar.Word w) = tt
      by_zero scalar.Pointer = tt

      by_const : (t : IrType) (c : Const) → NotFalse (IsKnown m f (operands.Const c)) → Names (other_operand (numbers f) (constant m t c))
      by_const t (consts.Int n) h = tt
      by_const t (consts.Bool b) h = tt
      by_const t consts.Null h = tt
      by_const t consts.Undef h = by_zero (scalar_of t)
      by_const t consts.Poison h = tt
      by_const t consts.Zero h = tt
      by_const t (consts.Bytes bs) h = tt
      by_const t (consts.Address s) h = names_global s (in_turn h (λ k. k s (contains (s ∷ []) s (inl refl))))
      by_const t (consts.Gep source s is) h = names_global s (in_turn h (λ k. k s (contains (s ∷ []) s (inl refl))))
      by_const t (consts.Array' n items) h = tt
      by_const t (consts.Struct' n items) h = tt

      by_value : (t : IrType) (v : Operand) → NotFalse (IsKnown m f v) → Names (other_operand (numbers f) (operand m t v))
      by_value t (operands.Local x) h = tt
      by_value t (operands.Const c) h = by_const t c h
