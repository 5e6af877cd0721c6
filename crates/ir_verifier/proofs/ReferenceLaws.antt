-- The places at which the rule of references is broken.
use Rattle.std.proofs.Common.{◌≡◌, ◌⊎◌, inl, inr, refl, sym, ap, ◌∙◌, subst, Bool, true, false, not, ◌&&◌, nat_eq, ℕ, [], ◌∷◌, map, Option, Some, None, Contains}
use Rattle.std.specs.List.{flat_map, list_any, list_all}
use Rattle.oi_base.specs.declared.ids.Place.{Place}
use Rattle.ir_core.specs.declared.module.SymId.{SymId}
use Rattle.ir_core.specs.declared.module.Module.{Module}
use Rattle.ir_core.specs.declared.constant.Const.{Const}
use Rattle.ir_core.specs.declared.constant.Const as consts
use Rattle.ir_core.specs.declared.op.LocalId.{LocalId}
use Rattle.ir_core.specs.declared.op.Operand.{Operand}
use Rattle.ir_core.specs.declared.op.Operand.TheVariants as operands
use Rattle.ir_core.specs.declared.op.TypedOperand.{TypedOperand}
use Rattle.ir_core.specs.declared.op.Op.{Op}
use Rattle.ir_core.specs.declared.func.Block.{Block}
use Rattle.ir_core.specs.declared.func.Func.{Func}
use Rattle.ir_core.specs.Proper.{IsValue}
use Rattle.ir_core.specs.Parts.{instrs, const_symbols}
use Rattle.ir_core.specs.Operands.{Step, operands_of, labels_of}
use Rattle.ir_core.specs.ValidConsts.{IsVariable}
use Rattle.ir_core.specs.ValidFunc.{IsParam, IsRegister, IsLabel, IsKnown, RefersWrongly}
use Rattle.ir_core.proofs.Lists.{Has, has_part, contains}
use Rattle.module_rules.specs.Faults.{numbers_of, global_numbers}
use Rattle.ir_verifier.specs.Faults.{param_number, result_number, block_results, value_numbers, label_number, label_numbers, scope_of, is_known_const, is_known_value, is_known, is_label}
use Rattle.std.specs.Bool.{Decides}
use Rattle.module_rules.proofs.Decided.{some_fails, passes, false_is_not_true}
use Rattle.module_rules.proofs.Sets.{number_decides, in_numbers, numbers_in, has_mapped, mapped_has, has_made, local_of, variable_decides}
use Rattle.module_rules.proofs.Faulty.{has}

-- ---- values, labels and global variables

-- an instruction whose result has the number
result_has : (p : Place) (r : Option LocalId) (op : Op) (n : ℕ) → Has (result_number (record { place = p; result = r; op = op })) n → (x : LocalId) × (r ≡ Some x) × (x.0 ≡ n)
result_has p None op n h = absurd h
result_has p (Some x) op n (inl e) = (x, refl, e)
result_has p (Some x) op n (inr h) = absurd h

has_result : (p : Place) (r : Option LocalId) (op : Op) (x : LocalId) → r ≡ Some x → Has (result_number (record { place = p; result = r; op = op })) x.0
has_result p None op x e = absurd (let clash : None ≡ Some x = e in cc)
has_result p (Some y) op x e = inl (let same : y ≡ x = cc in ap (λ (z : LocalId). z.0) same)

-- a value that is no aggregate
abbrev pub IsPlain : Operand → Type 0
IsPlain (operands.Local x) = Unit {0}
IsPlain (operands.Const c) = IsValue c

module _ (m : Module) (f : Func) where
  label_decides : (x : LocalId) → Decides (is_label (scope_of m f) x) (IsLabel f x)
  label_decides x = (λ e. of_number (in_numbers (map label_number f.blocks) [] x.0 (d.0 e)), λ b. d.1 (to_number b))
    where
      d : Decides (list_any (nat_eq x.0) (label_numbers f)) (Has (label_numbers f) x.0)
      d = number_decides x.0 (label_numbers f)

      of_number : Has [] x.0 ⊎ Has (map label_number f.blocks) x.0 → IsLabel f x
      of_number (inl h) = absurd h
      of_number (inr h) = let r = has_mapped label_number f.blocks x.0 h in (r.0, contains f.blocks r.0 r.1, local_of r.0.label x r.2)

      to_number : IsLabel f x → Has (label_numbers f) x.0
      to_number b = numbers_in (map label_number f.blocks) [] x.0 (inr (subst (λ (y : LocalId). Has (map label_number f.blocks) y.0) b.2 (mapped_has label_number f.blocks b.0 (has f.blocks b.0 b.1))))

  local_decides : (x : LocalId) → Decides (list_any (nat_eq x.0) (value_numbers f)) (IsParam f x ⊎ IsRegister f x)
  local_decides x = (λ e. of_all (in_numbers (flat_map block_results f.blocks) (numbers_of (map param_number f.params)) x.0 (d.0 e)), λ k. d.1 (to_number k))
    where
      d : Decides (list_any (nat_eq x.0) (value_numbers f)) (Has (value_numbers f) x.0)
      d = number_decides x.0 (value_numbers f)

      of_param : Has [] x.0 ⊎ Has (map param_number f.params) x.0 → IsParam f x
      of_param (inl h) = absurd h
      of_param (inr h) = let r = has_mapped param_number f.params x.0 h in (r.0, contains f.params r.0 r.1, local_of r.0.name x r.2)

      of_result : Has (flat_map block_results f.blocks) x.0 → IsRegister f x
      of_result h =
          let b = has_made block_results f.blocks x.0 h in
          let i = has_made result_number b.0.code x.0 b.2 in
          let r = result_has i.0.place i.0.result i.0.op x.0 i.2 in
          (i.0, contains (instrs f) i.0 (has_part (λ (k : Block). k.code) f.blocks b.0 i.0 b.1 i.1), r.1 ∙ ap Some (local_of r.0 x r.2))

      of_all : Has (numbers_of (map param_number f.params)) x.0 ⊎ Has (flat_map block_results f.blocks) x.0 → IsParam f x ⊎ IsRegister f x
      of_all (inl h) = inl (of_param (in_numbers (map param_number f.params) [] x.0 h))
      of_all (inr h) = inr (of_result h)

      to_number : IsParam f x ⊎ IsRegister f x → Has (value_numbers f) x.0
      to_number (inl q) =
          numbers_in (flat_map block_results f.blocks) (numbers_of (map param_number f.params)) x.0
          (inl (numbers_in (map param_number f.params) [] x.0 (inr (subst (λ (y : LocalId). Has (map param_number f.params) y.0) q.2 (mapped_has param_number f.params q.0 (has f.params q.0 q.1))))))
      to_number (inr r) =
          let b = has_made (λ (k : Block). k.code) f.blocks r.0 (has (instrs f) r.0 r.1) in
          numbers_in (flat_map block_results f.blocks) (numbers_of (map param_number f.params)) x.0
          (inr (has_part block_results f.blocks b.0 x.0 b.1 (has_part result_number b.0.code r.0 x.0 b.2 (has_result r.0.place r.0.result r.0.op x r.2))))

  abbrev NamesKnown : Const → Type 0
  NamesKnown c = (s : SymId) → Contains (const_symbols c) s → IsVariable m s

  no_names : Decides true ((s : SymId) → Contains [] s → IsVariable m s)
  no_names = (λ e s h. absurd (has [] s h), λ h. refl)

  one_name : (g : SymId) → Decides (list_any (nat_eq g.0) (global_numbers m)) ((s : SymId) → Contains (g ∷ []) s → IsVariable m s)
  one_name g = (λ e s h. of_has ((variable_decides m g).0 e) s (has (g ∷ []) s h), λ k. (variable_decides m g).1 (k g (contains (g ∷ []) g (inl refl))))
    where
      of_has : IsVariable m g → (s : SymId) → Has (g ∷ []) s → IsVariable m s
      of_has v s (inl e) = subst (IsVariable m) e v
      of_has v s (inr h) = absurd h

  const_decides : (c : Const) → IsValue c → Decides (is_known_const (scope_of m f) c) (NamesKnown c)
  const_decides (consts.Int n) v = no_names
  const_decides (consts.Bool b) v = no_names
  const_decides consts.Null v = no_names
  const_decides consts.Undef v = no_names
  const_decides consts.Poison v = no_names
  const_decides consts.Zero v = absurd v
  const_decides (consts.Bytes b) v = absurd v
  const_decides (consts.Address g) v = one_name g
  const_decides (consts.Gep t g is) v = one_name g
  const_decides (consts.Array' k items) v = absurd v
  const_decides (consts.Struct' k fields) v = absurd v

  value_decides : (v : Operand) → IsPlain v → Decides (is_known_value (scope_of m f) v) (IsKnown m f v)
  value_decides (operands.Local x) p = local_decides x
  value_decides (operands.Const c) p = const_decides c p

  module _ (s : Step) (plain : (a : TypedOperand) → Has (operands_of s) a → IsPlain a.value) (test : Bool) (same : test ≡ (list_all (is_known (scope_of m f)) (operands_of s) && list_all (is_label (scope_of m f)) (labels_of s))) where
    wrong_value : list_all (is_known (scope_of m f)) (operands_of s) ≡ false → RefersWrongly m f s
    wrong_value e =
        let r = some_fails (is_known (scope_of m f)) (operands_of s) e in
        inl (r.0, contains (operands_of s) r.0 r.1, λ k. false_is_not_true (sym r.2 ∙ (value_decides r.0.value (plain r.0 r.1)).1 k))

    wrong_label : list_all (is_label (scope_of m f)) (labels_of s) ≡ false → RefersWrongly m f s
    wrong_label e =
        let r = some_fails (is_label (scope_of m f)) (labels_of s) e in
        inr (r.0, contains (labels_of s) r.0 r.1, λ k. false_is_not_true (sym r.2 ∙ (label_decides r.0).1 k))

    pub wrong : not test ≡ true → RefersWrongly m f s
    wrong e = by_tests (list_all (is_known (scope_of m f)) (operands_of s)) (list_all (is_label (scope_of m f)) (labels_of s)) refl refl (subst (λ (t : Bool). not t ≡ true) same e)
      where
        by_tests : (u v : Bool) → list_all (is_known (scope_of m f)) (operands_of s) ≡ u → list_all (is_label (scope_of m f)) (labels_of s) ≡ v → not (u && v) ≡ true → RefersWrongly m f s
        by_tests false v a b g = wrong_value a
        by_tests true false a b g = wrong_label b
        by_tests true true a b g = absurd (false_is_not_true g)

    pub right : RefersWrongly m f s → not test ≡ true
    right w = subst (λ (t : Bool). not t ≡ true) (sym same) (by_tests (list_all (is_known (scope_of m f)) (operands_of s)) (list_all (is_label (scope_of m f)) (labels_of s)) refl refl w)
      where
        by_tests : (u v : Bool) → list_all (is_known (scope_of m f)) (operands_of s) ≡ u → list_all (is_label (scope_of m f)) (labels_of s) ≡ v → RefersWrongly m f s → not (u && v) ≡ true
        by_tests false v a b g = refl
        by_tests true false a b g = refl
        by_tests true true a b (inl g) =
            let h = has (operands_of s) g.0 g.1 in
            absurd (g.2 ((value_decides g.0.value (plain g.0 h)).0 (passes (is_known (scope_of m f)) (operands_of s) g.0 a h)))
        by_tests true true a b (inr g) =
            absurd (g.2 ((label_decides g.0).0 (passes (is_label (scope_of m f)) (labels_of s) g.0 b (has (labels_of s) g.0 g.1))))
