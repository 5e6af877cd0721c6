-- The alignments of types, and that what stands in a type that is not too large is not too large either, so the strides of an
-- address's terms are small.
use Rattle.std.proofs.Common.{◌≡◌, inl, inr, ⊎_elim, ℕ, zero, suc, ◌<◌, ◌≤◌, max, List, [], ◌∷◌, length, Option, Some, None, slice_get, All, Contains, refl, sym, ap, subst, arith}
use Rattle.std.specs.Prelude.{unwrap_or}
use Rattle.std.specs.List.{AllByRecursion as Each}
use Rattle.std.specs.Option.{option_map, option_map_or, option_and_then}
use Rattle.std.proofs.lemmas.Bool.{cases_lt}
use Rattle.std.proofs.lemmas.List.Elements.{All-nil, All-cons}
use Rattle.ir_core.specs.declared.limits.TheConstants.{LARGEST}
use Rattle.oi_base.specs.declared.words.Width.{Width}
use Rattle.oi_base.specs.declared.words.Width.TheVariants.{W1, W8, W16, W32}
use Rattle.ir_core.specs.declared.flat.Term.{Term}
use Rattle.ir_core.specs.declared.layout.Layout.{Layout}
use Rattle.ir_core.specs.declared.ty.TypeName.{TypeName}
use Rattle.ir_core.specs.declared.ty.TypeDef.{TypeDef}
use Rattle.ir_core.specs.declared.ty.IrType.{IrType, Void, Int, Ptr, Array', Struct', Named, Row_of-IrType, end_of-IrType, more_of-IrType, out-IrType}
use Rattle.ir_core.specs.declared.ty.IrType.TheOpen.{IrType-F}
use Rattle.ir_core.specs.declared.ty.IrType.TheVariants.{outs-Void, outs-Array, outs-Named}
use Rattle.ir_core.specs.Constants.{scalar_of, aligned_as, Index, joined, element, into, inside, element_of, walk, path}
use Rattle.ir_core.specs.Memory.{scalar_size}
use Rattle.ir_core.specs.Formed.{IsAlign}
use Rattle.ir_core.specs.Sizes.{word_layout, array_of, empty, after, rounded, placed, layout_by, field_layouts, definition, name_layout, layout, size, align, name_of, resolved, types_in, struct_types, fields}
use Rattle.ir_core.specs.ValidOps.{IsScalar}
use Rattle.ir_core.specs.ValidTypes.{directly_in, StandsIn, IsTooLarge, IsGoodAlign}
use Rattle.ir_core.proofs.Lists.{Has, contains, has_at, has_in}

-- ---- alignments

greater_is : (P : ℕ → Type 0) (a b : ℕ) → P a → P b → P (max a b)
greater_is P a b p q = ⊎_elim (λ lt. let e : b ≡ max a b = omega (arith, lt) in subst P e q) (λ le. let e : a ≡ max a b = omega (arith, le) in subst P e p) (cases_lt a b)

abbrev IsAligned : Option Layout → Type 0
IsAligned None = Unit {0}
IsAligned (Some l) = IsAlign l.align

one_aligned : IsAlign 1
one_aligned = (0, omega arith, refl)

four_aligned : IsAlign 4
four_aligned = (2, omega arith, refl)

word_aligned : (w : Width) → IsAlign (word_layout w).align
word_aligned W1 = one_aligned
word_aligned W8 = one_aligned
word_aligned W16 = (1, omega arith, refl)
word_aligned W32 = four_aligned

array_aligned : (n : ℕ) (o : Option Layout) → IsAligned o → IsAligned (option_map (array_of n) o)
array_aligned n None h = tt
array_aligned n (Some l) h = h

struct_aligned : (o : Option Layout) → IsAligned o → IsAligned (option_map rounded o)
struct_aligned None h = tt
struct_aligned (Some l) h = h

fields_aligned : (before : Layout) (ls : List (Option Layout)) → IsAlign before.align → Each IsAligned ls → IsAligned (placed before ls)
fields_aligned before [] h g = h
fields_aligned before (None ∷ ls) h g = tt
fields_aligned before (Some l ∷ ls) h g = fields_aligned (after before l) ls (greater_is IsAlign before.align l.align h g.0) g.1

module _ (names : TypeName → Option Layout) (h : (x : TypeName) → IsAligned (names x)) where
  mutual
    type_aligned : (t : IrType) → IsAligned (layout_by names t)
    type_aligned Void = tt
    type_aligned (Int w) = word_aligned w
    type_aligned Ptr = four_aligned
    type_aligned (Array' n _ (more_of-IrType item end_of-IrType)) = array_aligned n (layout_by names item) (type_aligned item)
    type_aligned (Struct' _ fields) = struct_aligned (placed empty (field_layouts names fields)) (fields_aligned empty (field_layouts names fields) one_aligned (row_aligned fields))
    type_aligned (Named x) = h x

    row_aligned : {n : _} (row : Row_of-IrType n) → Each IsAligned (field_layouts names row)
    row_aligned end_of-IrType = tt
    row_aligned (more_of-IrType t ts) = (type_aligned t, row_aligned ts)

-- ---- types of a module

-- one level of an array
pub array_out : (n : ℕ) (m : _) (item : IrType) → out-IrType (Array' n m (more_of-IrType item end_of-IrType)) ≡ IrType-F.Array n item
unfolding Rattle.ir_core.specs.declared.ty.IrType.TheBlock.hidden-the_row-IrType-0 denote.Hole.Carrier.hidden
array_out n m item = outs-Array n item

-- what an index is multiplied by is a word
abbrev pub HasSmallStride : Term → Type 0
HasSmallStride t = t.stride < 4294967296

module _ (defs : List TypeDef) where
  name_aligned : (n : ℕ) (x : TypeName) → IsAligned (name_layout n defs x)
  name_aligned zero x = tt
  name_aligned (suc n) x = by_definition (definition defs x) (name_aligned n)
    where
      by_definition : (o : Option TypeDef) → ((y : TypeName) → IsAligned (name_layout n defs y)) → IsAligned (option_and_then (λ (d : TypeDef). layout_by (name_layout n defs) d.ty) o)
      by_definition None below = tt
      by_definition (Some d) below = type_aligned (name_layout n defs) below d.ty

  align_is_good : (t : IrType) → IsAlign (align defs t)
  unfolding layout
  align_is_good t = by_layout (layout_by (name_layout (length defs) defs) t) (type_aligned (name_layout (length defs) defs) (name_aligned (length defs)) t)
    where
      by_layout : (o : Option Layout) → IsAligned o → IsAlign (unwrap_or o empty).align
      by_layout None h = one_aligned
      by_layout (Some l) h = h

  -- the alignment of an access
  pub aligned_well : (stated : Option ℕ) (t : IrType) → IsGoodAlign defs t stated → IsAlign (aligned_as defs stated t)
  aligned_well None t h = align_is_good t
  aligned_well (Some a) t h = h.0

  word_within : (w : Width) → scalar_size (scalar_of (Int w)) ≤ align defs (Int w)
  unfolding layout
  word_within W1 = omega arith
  word_within W8 = omega arith
  word_within W16 = omega arith
  word_within W32 = omega arith

  scalar_within : (t : IrType) → IsScalar t → scalar_size (scalar_of t) ≤ align defs t
  unfolding layout
  scalar_within Void h = absurd h
  scalar_within (Int w) h = word_within w
  scalar_within Ptr h = omega arith
  scalar_within (Array' n _ items) h = absurd h
  scalar_within (Struct' n fields) h = absurd h
  scalar_within (Named x) h = absurd h

  pub within_alignment : (stated : Option ℕ) (t : IrType) → IsScalar t → IsGoodAlign defs t stated → scalar_size (scalar_of t) ≤ aligned_as defs stated t
  within_alignment None t s h = scalar_within t s
  within_alignment (Some a) t s h = let own = scalar_within t s in let more = h.1 in omega (arith, own, more)

  -- ---- sizes

  -- the type is not too large, and nothing that stands in it
  abbrev pub IsSmall : IrType → Type 0
  IsSmall t = IsTooLarge defs t → ⊥

  pub small_size : (t : IrType) → IsSmall t → size defs t ≤ LARGEST
  small_size t small = ⊎_elim (λ big. absurd (small (t, inl refl, big))) (λ le. le) (cases_lt LARGEST (size defs t))

  directly_small : (t u : IrType) → Has (directly_in defs t) u → IsSmall t → IsSmall u
  directly_small t u h small = λ big. small (big.0, leads big.0 big.1, big.2)
    where
      leads : (v : IrType) → StandsIn defs u v → StandsIn defs t v
      leads v (inl e) = inr ([], subst (Contains (directly_in defs t)) e (contains (directly_in defs t) u h))
      leads v (inr b) = inr (u ∷ b.0, (contains (directly_in defs t) u h, b.1))

  none_in_void : (v : IrType) → Contains (directly_in defs Void) v → ⊥
  none_in_void v c = let h : Has (directly_in defs Void) v = has_in (directly_in defs Void) v c in let none : ⊥ = rw outs-Void at h in none

  void_small : IsSmall Void
  unfolding layout
  void_small (u, inl same, big) = let none : size defs u ≡ 0 = sym (ap (size defs) same) in absurd (omega (arith, none, big))
  void_small (u, inr ([], leads), big) = none_in_void u leads
  void_small (u, inr (v ∷ between, leads), big) = none_in_void v leads.0

  is_name : (t : IrType) (x : TypeName) → name_of t ≡ Some x → t ≡ Named x
  is_name (Named y) x e = cc
  is_name t x e = cc

  name_leads : (x : TypeName) (d : TypeDef) → definition defs x ≡ Some d → Has (directly_in defs (Named x)) d.ty
  name_leads x d e = rw (outs-Named, e) (inl refl)

  array_leads : (t : IrType) (n : ℕ) (item : IrType) → out-IrType t ≡ IrType-F.Array n item → Has (directly_in defs t) item
  array_leads t n item e = rw e (inl refl)

  element_leads : (t item : IrType) → element t ≡ Some item → Has (directly_in defs t) item
  element_leads (Array' n m (more_of-IrType u end_of-IrType)) item e =
      let same : u ≡ item = cc in subst (Has (directly_in defs (Array' n m (more_of-IrType u end_of-IrType)))) same (array_leads (Array' n m (more_of-IrType u end_of-IrType)) n u (array_out n m u))
  element_leads t item e = cc

  field_leads : (t : IrType) (k : ℕ) (u : IrType) → slice_get (struct_types t) k ≡ Some u → Has (directly_in defs t) u
  field_leads t k u e = by_level (out-IrType t) refl e
    where
      by_level : (l : IrType-F IrType) → out-IrType t ≡ l → slice_get (types_in l) k ≡ Some u → Has (directly_in defs t) u
      by_level (IrType-F.Struct ts) is at = rw is (has_at ts k u at)
      by_level l is at = cc

  -- through names
  resolved_small : (n : ℕ) (t : IrType) → IsSmall t → IsSmall (resolved n defs t)
  resolved_small zero t small = small
  resolved_small (suc n) t small = by_name (name_of t) refl (resolved_small n)
    where
      by_name : (o : Option TypeName) → name_of t ≡ o → ((u : IrType) → IsSmall u → IsSmall (resolved n defs u))
          → IsSmall (option_map_or (λ (d : TypeDef). resolved n defs d.ty) (option_and_then (definition defs) o) t)
      by_name None e below = small
      by_name (Some x) e below = by_definition (definition defs x) refl
        where
          by_definition : (o : Option TypeDef) → definition defs x ≡ o → IsSmall (option_map_or (λ (d : TypeDef). resolved n defs d.ty) o t)
          by_definition None f = small
          by_definition (Some d) f = below d.ty (directly_small (Named x) d.ty (name_leads x d f) (subst IsSmall (is_name t x e) small))

  abbrev plain : IrType → IrType
  plain t = resolved (length defs) defs t

  item_small : (t item : IrType) → element_of defs t ≡ Some item → IsSmall t → IsSmall item
  item_small t item e small = directly_small (plain t) item (element_leads (plain t) item e) (resolved_small (length defs) t small)

  field_small : (t : IrType) (k : ℕ) → IsSmall t → IsSmall (unwrap_or (slice_get (fields defs t) k) Void)
  field_small t k small = by_field (slice_get (fields defs t) k) refl
    where
      by_field : (o : Option IrType) → slice_get (fields defs t) k ≡ o → IsSmall (unwrap_or o Void)
      by_field None e = void_small
      by_field (Some u) e = directly_small (plain t) u (field_leads (plain t) k u e) (resolved_small (length defs) t small)

  -- ---- strides

  small_stride : (t : IrType) → IsSmall t → size defs t < 4294967296
  small_stride t small = let le = small_size t small in omega (arith, le)

  walk_strides : (is : List Index) (t : IrType) → IsSmall t → All HasSmallStride (walk defs t is).terms
  walk_strides [] t small = All-nil HasSmallStride
  walk_strides (i ∷ is) t small = by_element (element_of defs t) refl (walk_strides is)
    where
      by_element : (o : Option IrType) → element_of defs t ≡ o → ((u : IrType) → IsSmall u → All HasSmallStride (walk defs u is).terms)
          → All HasSmallStride (joined (into defs t o i) (walk defs (inside defs t o i) is)).terms
      by_element None e rest = rest (inside defs t None i) (field_small t _ small)
      by_element (Some item) e rest = All-cons HasSmallStride _ (walk defs item is).terms (small_stride item (item_small t item e small)) (rest item (item_small t item e small))

  pub path_strides : (is : List Index) (t : IrType) → IsSmall t → All HasSmallStride (path defs t is).terms
  path_strides [] t small = All-nil HasSmallStride
  path_strides (i ∷ is) t small = All-cons HasSmallStride _ (walk defs t is).terms (small_stride t small) (walk_strides is t small)
