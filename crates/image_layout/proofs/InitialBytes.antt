-- The bytes of an initialiser that has a type are as many as that has.
use Rattle.std.proofs.Common.{◌≡◌, ◌⊎◌, inl, inr, ℕ, zero, suc, ◌+◌, ◌-◌, ◌*◌, ◌/◌, ◌≤◌, refl, sym, ap, ◌∙◌, subst, arith, List, [], ◌∷◌, ◌++◌, map, replicate, length, length-append, Option, Some, None}
use mathlib.Core.Former.{Count, none_left, one_more, arity, list, this}
use Rattle.std.specs.Prelude.{unwrap_or}
use Rattle.std.specs.List.{AllByRecursion as Each}
use Rattle.std.specs.Int.{next_multiple_of}
use Rattle.std.specs.Option.{option_map, option_map_or, option_and_then}
use Rattle.std.proofs.Math.Nat.{suc-mul}
use Rattle.std.proofs.lemmas.List.{length-map, length-replicate}
use Rattle.oi_base.specs.declared.words.Width.{Width}
use Rattle.oi_base.specs.declared.words.Width.TheVariants.{W1, W8, W16, W32}
use Rattle.ir_core.specs.declared.flat.Scalar.TheVariants as scalar
use Rattle.ir_core.specs.declared.layout.Layout.{Layout}
use Rattle.ir_core.specs.declared.ty.TypeName.{TypeName}
use Rattle.ir_core.specs.declared.ty.TypeDef.{TypeDef}
use Rattle.ir_core.specs.declared.ty.IrType as types
use Rattle.ir_core.specs.declared.ty.IrType.{IrType, Void, Int, Ptr, Array', Struct', Named, out-IrType}
use Rattle.ir_core.specs.declared.ty.IrType.TheOpen.{IrType-F}
use Rattle.ir_core.specs.declared.ty.IrType.TheVariants.{outs-Int, outs-Ptr, rolls-Array, rolls-Struct}
use Rattle.ir_core.specs.declared.ty.IrType.TheViews.{roll-IrType, roll-out-IrType}
use Rattle.ir_core.specs.declared.module.Module.{Module}
use Rattle.ir_core.specs.declared.constant.Const.{Const, Row_of-TypedConst, end_of-TypedConst, more_of-TypedConst}
use Rattle.ir_core.specs.declared.constant.Const as consts
use Rattle.ir_core.specs.Constants.{scalar_of, global_number, gap, filled_up, initial_bytes, element_bytes, field_bytes}
use Rattle.ir_core.specs.Formed.{IsAlign}
use Rattle.ir_core.specs.Memory.{At, Byte, Unset, PoisonByte, Octet, scalar_size, octets, stored}
use Rattle.ir_core.specs.Parts.{const_types, consts_types}
use Rattle.ir_core.specs.Sizes.{word_layout, array_of, empty, after, rounded, placed, definition, name_layout, layout, size, name_of, resolved}
use Rattle.ir_core.specs.ValidConsts.{plain, HasType, AreItems, AreFields}
use Rattle.ir_core.specs.ValidTypes.{StandsForStruct}
use Rattle.ir_core.proofs.Fields.{resolved_layout, struct_layout}
use Rattle.ir_core.proofs.Layouts.{at_array}
use Rattle.ir_core.proofs.Lists.{each_left, each_right}
use Rattle.ir_safety.proofs.TypeSizes.{aligned_well}
use Rattle.image_layout.proofs.DataLaid.{is_next}

-- how many there are in a row
abbrev as_number : Count → ℕ
as_number none_left = 0
as_number (one_more n) = suc (as_number n)

as_many : (each : List (Unit {0})) → as_number (arity (list this) each) ≡ length each
as_many [] = refl
as_many (u ∷ us) = ap suc (as_many us)

appended : (xs ys : List Byte) (n k : ℕ) → length xs ≡ k → length ys ≡ n * k → length (xs ++ ys) ≡ suc n * k
appended xs ys n k a b = let l = length-append xs ys in let more = suc-mul n k in omega (arith, l, a, b, more)

no_layout : {A : Type 0} {x : A} → None ≡ Some x → ⊥
no_layout e = cc

same_layout : {x y : Layout} → Some x ≡ Some y → x ≡ y
same_layout e = cc

-- ---- bytes of scalars

octets_length : (n a : ℕ) → length (octets n a) ≡ n
octets_length zero a = refl
octets_length (suc n) a = ap suc (octets_length n (a / 256))

module _ (m : Module) where
  abbrev defs : List TypeDef
  defs = m.types.defs

  -- ---- layouts

  -- a name stands for a struct
  abbrev pub OkName : Option TypeName → Type 0
  OkName None = Unit {0}
  OkName (Some x) = StandsForStruct defs x

  abbrev pub OkType : IrType → Type 0
  OkType t = OkName (name_of t)

  itself : (n : ℕ) (t : IrType) → name_of t ≡ None → resolved n defs t ≡ t
  itself zero t e = refl
  itself (suc n) t e = ap (λ (o : Option TypeName). option_map_or (λ (d : TypeDef). resolved n defs d.ty) (option_and_then (definition defs) o) t) e

  array_layout : (n : ℕ) (item : IrType) (l : Layout) → layout defs (types.Array n item) ≡ Some l → (w : Layout) × (layout defs item ≡ Some w) × (array_of n w ≡ l)
  unfolding layout
  array_layout n item l e = by (layout defs item) refl (sym (at_array (name_layout (length defs) defs) n item) ∙ e)
    where
      by : (o : Option Layout) → layout defs item ≡ o → option_map (array_of n) o ≡ Some l → (w : Layout) × (layout defs item ≡ Some w) × (array_of n w ≡ l)
      by None s f = absurd (no_layout f)
      by (Some w) s f = (w, s, same_layout f)

  -- ---- sizes

  word_size : (w : Width) → scalar_size (scalar.Word w) ≡ (word_layout w).size
  word_size W1 = refl
  word_size W8 = refl
  word_size W16 = refl
  word_size W32 = refl

  abbrev IsScalarType : IrType → Type 0
  IsScalarType u = ((w : Width) × (u ≡ Int w)) ⊎ (u ≡ Ptr)

  not_struct : (u : IrType) (us : List IrType) → IsScalarType u → out-IrType u ≡ IrType-F.Struct us → ⊥
  not_struct u us (inl p) e = clash (sym (outs-Int p.0) ∙ sym (ap out-IrType p.1) ∙ e)
    where
      clash : IrType-F.Int p.0 ≡ IrType-F.Struct us → ⊥
      clash f = cc
  not_struct u us (inr p) e = clash (sym outs-Ptr ∙ sym (ap out-IrType p) ∙ e)
    where
      clash : IrType-F.Ptr ≡ IrType-F.Struct us → ⊥
      clash f = cc

  array_is_none : (k : ℕ) (a : _) (ts : _) → IsScalarType (Array' k a ts) → ⊥
  array_is_none k a ts (inl p) = let f = p.1 in cc
  array_is_none k a ts (inr p) = cc

  struct_is_none : (k : _) (ts : _) → IsScalarType (Struct' k ts) → ⊥
  struct_is_none k ts (inl p) = let f = p.1 in cc
  struct_is_none k ts (inr p) = cc

  scalar_fits : (t : IrType) → OkType t → (l : Layout) → layout defs t ≡ Some l → IsScalarType (plain defs t) → scalar_size (scalar_of t) ≡ l.size
  unfolding layout
  scalar_fits Void ok l e p = absurd (no_layout e)
  scalar_fits (Int w) ok l e p = word_size w ∙ ap (λ (x : Layout). x.size) (same_layout e)
  scalar_fits Ptr ok l e p = ap (λ (x : Layout). x.size) (same_layout e)
  scalar_fits (Array' k a ts) ok l e p = absurd (array_is_none k a ts (subst IsScalarType (itself (length defs) (Array' k a ts) refl) p))
  scalar_fits (Struct' k ts) ok l e p = absurd (struct_is_none k ts (subst IsScalarType (itself (length defs) (Struct' k ts) refl) p))
  scalar_fits (Named x) ok l e p = absurd (not_struct (plain defs (Named x)) ok.0 p ok.1)

  pub size_is : (t : IrType) (l : Layout) → layout defs t ≡ Some l → size defs t ≡ l.size
  size_is t l e = ap (λ (o : Option Layout). (unwrap_or o empty).size) e

  align_ok : (t : IrType) (l : Layout) → layout defs t ≡ Some l → IsAlign l.align
  align_ok t l e = subst (λ (o : Option Layout). IsAlign (unwrap_or o empty).align) e (aligned_well defs None t tt)

  zeros_length : (t : IrType) (l : Layout) (b : Byte) → layout defs t ≡ Some l → length (replicate (size defs t) b) ≡ l.size
  zeros_length t l b e = length-replicate (size defs t) b ∙ size_is t l e

  pointer_length : (t : IrType) (l : Layout) (b o : ℕ) → OkType t → layout defs t ≡ Some l → plain defs t ≡ Ptr → length (stored (scalar_of t) (At b o)) ≡ l.size
  unfolding layout
  pointer_length Void l b o ok e p = absurd (no_layout e)
  pointer_length (Int w) l b o ok e p = absurd (clash (sym (itself (length defs) (Int w) refl) ∙ p))
    where
      clash : Int w ≡ Ptr → ⊥
      clash f = cc
  pointer_length Ptr l b o ok e p = ap (λ (x : Layout). x.size) (same_layout e)
  pointer_length (Array' k a ts) l b o ok e p = absurd (array_is_none k a ts (subst IsScalarType (itself (length defs) (Array' k a ts) refl) (inr p)))
  pointer_length (Struct' k ts) l b o ok e p = absurd (struct_is_none k ts (subst IsScalarType (itself (length defs) (Struct' k ts) refl) (inr p)))
  pointer_length (Named x) l b o ok e p = absurd (not_struct (plain defs (Named x)) ok.0 (inr p) ok.1)

  array_of_level : (t : IrType) (n : ℕ) (item : IrType) (l : Layout) → out-IrType (plain defs t) ≡ IrType-F.Array n item → layout defs t ≡ Some l → (w : Layout) × (layout defs item ≡ Some w) × (array_of n w ≡ l)
  array_of_level t n item l e f =
      let is : plain defs t ≡ types.Array n item = sym (roll-out-IrType (plain defs t)) ∙ ap roll-IrType e ∙ rolls-Array n item in
      array_layout n item l (ap (layout defs) (sym is) ∙ resolved_layout (length defs) defs t l f)

  struct_of_level : (t : IrType) (us : List IrType) (l : Layout) → out-IrType (plain defs t) ≡ IrType-F.Struct us → layout defs t ≡ Some l → (r : Layout) × (placed empty (map (layout defs) us) ≡ Some r) × (rounded r ≡ l)
  struct_of_level t us l e f =
      let is : plain defs t ≡ types.Struct us = sym (roll-out-IrType (plain defs t)) ∙ ap roll-IrType e ∙ rolls-Struct us in
      let r = struct_layout defs us l (ap (layout defs) (sym is) ∙ resolved_layout (length defs) defs t l f) in
      (r.0, r.1, sym r.2)

  byte_layout : (w : Layout) → layout defs (Int W8) ≡ Some w → w.size ≡ 1
  unfolding layout
  byte_layout w e = sym (ap (λ (x : Layout). x.size) (same_layout e))

  filled_length : (n : ℕ) (bs : List Byte) → length bs ≤ n → length (filled_up n bs) ≡ n
  filled_length n bs h = let l = length-append bs (gap (n - length bs)) in let r = length-replicate (n - length bs) Unset in omega (arith, l, r, h)

  -- a field and those after it
  by_layout : (t : IrType) (c : Const) {n : _} (cs : Row_of-TypedConst n) (o : Option Layout) → layout defs t ≡ o → (before r : Layout) (ls : List (Option Layout)) → placed before (o ∷ ls) ≡ Some r → ((w : Layout) → layout defs t ≡ Some w → length (initial_bytes m t c) ≡ w.size) → ((w : Layout) → placed (after before w) ls ≡ Some r → (after before w).size + length (field_bytes m (after before w).size cs) ≡ r.size) → before.size + length (field_bytes m before.size (more_of-TypedConst t c cs)) ≡ r.size
  by_layout t c cs None s before r ls e own rest = absurd (no_layout e)
  by_layout t c cs (Some w) s before r ls e own rest =
      subst (λ (o : Option Layout). Whole (unwrap_or o empty).align (unwrap_or o empty).size) (sym s) whole
    where
      Whole : ℕ → ℕ → Type 0
      Whole a k = before.size + length (gap (next_multiple_of before.size a - before.size) ++ initial_bytes m t c ++ field_bytes m (next_multiple_of before.size a + k) cs) ≡ r.size

      whole : Whole w.align w.size
      whole =
          let at = next_multiple_of before.size w.align in
          let up = (is_next before.size w.align (align_ok t w s)).up in
          let mine = own w s in
          let later = rest w e in
          let g = length-replicate (at - before.size) Unset in
          let x = length-append (gap (at - before.size)) (initial_bytes m t c) in
          let y = length-append (gap (at - before.size) ++ initial_bytes m t c) (field_bytes m (at + w.size) cs) in
          omega (arith, up, mine, later, g, x, y)

  mutual
    pub init_length : (t : IrType) (c : Const) → HasType m c t → Each OkType (const_types c) → OkType t → (l : Layout) → layout defs t ≡ Some l → length (initial_bytes m t c) ≡ l.size
    init_length t (consts.Int n) h ok at l e = octets_length (scalar_size (scalar_of t)) _ ∙ scalar_fits t at l e (inl (h.0, h.1))
    init_length t (consts.Bool b) h ok at l e = octets_length (scalar_size (scalar_of t)) _ ∙ scalar_fits t at l e (inl (W1, h))
    init_length t consts.Null h ok at l e = octets_length (scalar_size (scalar_of t)) 0 ∙ scalar_fits t at l e (inr h)
    init_length t consts.Undef h ok at l e = zeros_length t l (Octet 0) e
    init_length t consts.Poison h ok at l e = zeros_length t l PoisonByte e
    init_length t consts.Zero h ok at l e = zeros_length t l (Octet 0) e
    init_length t (consts.Bytes bs) h ok at l e =
        let a = array_of_level t (length bs) (Int W8) l h e in
        let size = ap (λ (x : Layout). x.size) a.2 in
        let one = byte_layout a.0 a.1 in
        let count = ap (λ (n : ℕ). length bs * n) one in
        length-map bs Octet ∙ (let z : length bs ≡ l.size = omega (arith, size, count) in z)
    init_length t (consts.Address s) h ok at l e = pointer_length t l (global_number m s) 0 at e h.0
    init_length t (consts.Gep source s is) h ok at l e = pointer_length t l (global_number m s) 0 at e h.0
    init_length t (consts.Array' each items) h ok at l e =
        let a = array_of_level t (length each) h.0 l h.1 e in
        items_length items h.0 h.2 ok a.0 a.1 ∙ ap (λ (n : ℕ). n * a.0.size) (as_many each) ∙ ap (λ (x : Layout). x.size) a.2
    init_length t (consts.Struct' each values) h ok at l e =
        let r = struct_of_level t h.0 l h.1 e in
        let n = fields_length values h.0 h.2 ok empty r.0 r.1 in
        let total = ap (λ (x : Layout). x.size) r.2 in
        let up = (is_next r.0.size r.0.align (subst IsAlign (sym (ap (λ (x : Layout). x.align) r.2)) (align_ok t l e))).up in
        let whole = size_is t l e in
        filled_length (size defs t) (field_bytes m 0 values) (omega (arith, n, total, up, whole)) ∙ whole

    items_length : {n : Count} (row : Row_of-TypedConst n) (item : IrType) → AreItems m row item → Each OkType (consts_types row) → (w : Layout) → layout defs item ≡ Some w → length (element_bytes m row) ≡ as_number n * w.size
    items_length end_of-TypedConst item h ok w e = omega arith
    items_length (more_of-TypedConst t c cs) item h ok w e =
        appended (initial_bytes m t c) (element_bytes m cs) _ w.size
        (init_length t c h.1 (each_left OkType (const_types c) (consts_types cs) ok.1) ok.0 w (ap (layout defs) h.0 ∙ e))
        (items_length cs item h.2 (each_right OkType (const_types c) (consts_types cs) ok.1) w e)

    fields_length : {n : _} (row : Row_of-TypedConst n) (us : List IrType) → AreFields m row us → Each OkType (consts_types row) → (before r : Layout) → placed before (map (layout defs) us) ≡ Some r → before.size + length (field_bytes m before.size row) ≡ r.size
    fields_length end_of-TypedConst [] h ok before r e = let s = ap (λ (x : Layout). x.size) (same_layout e) in omega (arith, s)
    fields_length end_of-TypedConst (u ∷ us) h ok before r e = absurd h
    fields_length (more_of-TypedConst t c cs) [] h ok before r e = absurd h
    fields_length (more_of-TypedConst t c cs) (u ∷ us) h ok before r e =
        by_layout t c cs (layout defs t) refl before r (map (layout defs) us) (ap (λ (v : IrType). placed before (layout defs v ∷ map (layout defs) us)) h.0 ∙ e)
        (λ w s. init_length t c h.1 (each_left OkType (const_types c) (consts_types cs) ok.1) ok.0 w s)
        (λ w f. fields_length cs us h.2 (each_right OkType (const_types c) (consts_types cs) ok.1) (after before w) r f)
