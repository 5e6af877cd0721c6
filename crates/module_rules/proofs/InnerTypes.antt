-- What an index leads to in a type that is laid out and not too large is so too.
use Rattle.std.proofs.Common.{◌≡◌, inl, inr, refl, sym, ap, ◌∙◌, subst, ⊎_elim, ℕ, zero, suc, ◌≤◌, List, [], ◌∷◌, map, length, Option, Some, None, slice_get, Contains}
use Rattle.std.specs.Prelude.{IsSome}
use Rattle.std.specs.Option.{option_map, option_map_or, option_and_then}
use Rattle.std.proofs.lemmas.Bool.{cases_lt}
use Rattle.std.proofs.lemmas.Option.{slice_get-map}
use Rattle.ir_core.specs.declared.limits.TheConstants.{LARGEST}
use Rattle.ir_core.specs.declared.layout.Layout.{Layout}
use Rattle.ir_core.specs.declared.ty.TypeName.{TypeName}
use Rattle.ir_core.specs.declared.ty.TypeDef.{TypeDef}
use Rattle.ir_core.specs.declared.ty.IrType.{IrType, Void, Int, Ptr, Array', Struct', Named}
use Rattle.ir_core.specs.declared.ty.IrType.TheVariants as types
use Rattle.ir_core.specs.declared.ty.IrType.TheVariants.{rolls-Array, rolls-Struct}
use Rattle.ir_core.specs.declared.ty.IrType.TheOpen.{IrType-F}
use Rattle.ir_core.specs.declared.ty.IrType.TheViews.{out-IrType, roll-IrType, roll-out-IrType, outs-Named}
use Rattle.ir_core.specs.Sizes.{array_of, empty, after, rounded, placed, name_layout, definition, layout, IsLaid, size, name_of, resolved, types_in}
use Rattle.ir_core.specs.ValidTypes.{directly_in, StandsIn, IsTooLarge}
use Rattle.ir_core.specs.ValidConsts.{Index, GoesInto, plain}
use Rattle.ir_core.proofs.Lists.{Has, contains, has_at}
use Rattle.ir_core.proofs.Names.{some_value}
use Rattle.ir_core.proofs.Fields.{named_layout}
use Rattle.ir_core.proofs.Layouts.{at_array, at_struct}
use Rattle.module_rules.proofs.WalkLaws.{none_at}

-- ---- one level of a type

array_of_level : (t : IrType) (n : ℕ) (u : IrType) → out-IrType t ≡ IrType-F.Array n u → t ≡ types.Array n u
array_of_level t n u e = sym (roll-out-IrType t) ∙ ap roll-IrType e ∙ rolls-Array n u

struct_of_level : (t : IrType) (ts : List IrType) → out-IrType t ≡ IrType-F.Struct ts → t ≡ types.Struct ts
struct_of_level t ts e = sym (roll-out-IrType t) ∙ ap roll-IrType e ∙ rolls-Struct ts

is_name : (t : IrType) (x : TypeName) → name_of t ≡ Some x → t ≡ Named x
is_name Void x e = cc
is_name (Int w) x e = cc
is_name Ptr x e = cc
is_name (Array' n _ _) x e = cc
is_name (Struct' _ _) x e = cc
is_name (Named y) x e = cc

-- a field stands in a struct alone
struct_at : (l : IrType-F IrType) (k : ℕ) (u : IrType) → slice_get (types_in l) k ≡ Some u → (ts : List IrType) × (l ≡ IrType-F.Struct ts) × (slice_get ts k ≡ Some u)
struct_at IrType-F.Void k u e = absurd (none_at k u e)
struct_at (IrType-F.Int w) k u e = absurd (none_at k u e)
struct_at IrType-F.Ptr k u e = absurd (none_at k u e)
struct_at (IrType-F.Array n item) k u e = absurd (none_at k u e)
struct_at (IrType-F.Struct ts) k u e = (ts, refl, e)
struct_at (IrType-F.Named x) k u e = absurd (none_at k u e)

-- ---- layouts

some_mapped : (g : Layout → Layout) (o : Option Layout) → IsSome (option_map g o) → IsSome o
some_mapped g None s = cc
some_mapped g (Some l) s = refl

each_placed : (os : List (Option Layout)) (b : Layout) (k : ℕ) (o : Option Layout) → IsSome (placed b os) → slice_get os k ≡ Some o → IsSome o
each_placed [] b k o s e = absurd (let clash : None ≡ Some o = e in cc)
each_placed (None ∷ os) b k o s e = cc
each_placed (Some l ∷ os) b zero o s e = let same : Some l ≡ o = cc in subst IsSome same refl
each_placed (Some l ∷ os) b (suc k) o s e = each_placed os (after b l) k o s e

module _ (defs : List TypeDef) where
  of_name : (t : IrType) (d : TypeDef) → option_and_then (definition defs) (name_of t) ≡ Some d → (x : TypeName) × (t ≡ Named x) × (definition defs x ≡ Some d)
  of_name t d e = by_name (name_of t) refl e
    where
      by_name : (o : Option TypeName) → name_of t ≡ o → option_and_then (definition defs) o ≡ Some d → (x : TypeName) × (t ≡ Named x) × (definition defs x ≡ Some d)
      by_name None s f = absurd (let clash : None ≡ Some d = f in cc)
      by_name (Some x) s f = (x, is_name t x s, f)

  def_laid : (t : IrType) (d : TypeDef) → option_and_then (definition defs) (name_of t) ≡ Some d → IsLaid defs t → IsLaid defs d.ty
  def_laid t d e s =
      let r = of_name t d e in
      let l = some_value (layout defs t) s in
      let below : layout defs d.ty ≡ Some l.0 = named_layout defs r.0 d l.0 r.2 (ap (layout defs) (sym r.1) ∙ l.1) in
      subst IsSome (sym below) refl

  resolved_laid : (n : ℕ) (t : IrType) → IsLaid defs t → IsLaid defs (resolved n defs t)
  resolved_laid zero t s = s
  resolved_laid (suc n) t s = by_name (option_and_then (definition defs) (name_of t)) refl (λ d. resolved_laid n d.ty)
    where
      by_name : (o : Option TypeDef) → option_and_then (definition defs) (name_of t) ≡ o → ((d : TypeDef) → IsLaid defs d.ty → IsLaid defs (resolved n defs d.ty)) → IsLaid defs (option_map_or (λ (d : TypeDef). resolved n defs d.ty) o t)
      by_name None e below = s
      by_name (Some d) e below = below d (def_laid t d e s)

  item_laid : (t : IrType) (n : ℕ) (u : IrType) → t ≡ types.Array n u → IsLaid defs t → IsLaid defs u
  unfolding layout
  item_laid t n u e s = some_mapped (array_of n) (layout defs u) (subst IsSome (ap (layout defs) e ∙ at_array (name_layout (length defs) defs) n u) s)

  field_laid : (t : IrType) (ts : List IrType) (k : ℕ) (u : IrType) → t ≡ types.Struct ts → slice_get ts k ≡ Some u → IsLaid defs t → IsLaid defs u
  unfolding layout
  field_laid t ts k u e at s =
      each_placed (map (layout defs) ts) empty k (layout defs u)
      (some_mapped rounded (placed empty (map (layout defs) ts)) (subst IsSome (ap (layout defs) e ∙ at_struct (name_layout (length defs) defs) ts) s))
      (slice_get-map (layout defs) ts k ∙ ap (option_map (layout defs)) at)

  pub into_laid : (t : IrType) (i : Index) (u : IrType) → GoesInto defs t i u → IsLaid defs t → IsLaid defs u
  into_laid t i u (inl a) s = item_laid (plain defs t) a.0 u (array_of_level (plain defs t) a.0 u a.1) (resolved_laid (length defs) t s)
  into_laid t i u (inr k) s =
      let r = struct_at (out-IrType (plain defs t)) k.0 u k.3 in
      field_laid (plain defs t) r.0 k.0 u (struct_of_level (plain defs t) r.0 r.1) r.2 (resolved_laid (length defs) t s)

  -- ---- sizes

  abbrev pub IsSmall : IrType → Type 0
  IsSmall t = IsTooLarge defs t → ⊥

  pub small_size : (t : IrType) → IsSmall t → size defs t ≤ LARGEST
  small_size t small = ⊎_elim (λ big. absurd (small (t, inl refl, big))) (λ le. le) (cases_lt LARGEST (size defs t))

  directly_small : (t u : IrType) → Contains (directly_in defs t) u → IsSmall t → IsSmall u
  directly_small t u c small = λ big. small (big.0, inside big.0 big.1, big.2)
    where
      inside : (v : IrType) → StandsIn defs u v → StandsIn defs t v
      inside v (inl e) = inr ([], subst (Contains (directly_in defs t)) e c)
      inside v (inr b) = inr (u ∷ b.0, (c, b.1))

  name_leads : (t : IrType) (x : TypeName) (d : TypeDef) → t ≡ Named x → definition defs x ≡ Some d → Has (directly_in defs t) d.ty
  name_leads t x d e f = rw (e, outs-Named, f) (inl refl)

  item_leads : (t : IrType) (n : ℕ) (u : IrType) → out-IrType t ≡ IrType-F.Array n u → Has (directly_in defs t) u
  item_leads t n u e = rw e (inl refl)

  field_leads : (t : IrType) (ts : List IrType) (k : ℕ) (u : IrType) → out-IrType t ≡ IrType-F.Struct ts → slice_get ts k ≡ Some u → Has (directly_in defs t) u
  field_leads t ts k u e at = rw e (has_at ts k u at)

  resolved_small : (n : ℕ) (t : IrType) → IsSmall t → IsSmall (resolved n defs t)
  resolved_small zero t s = s
  resolved_small (suc n) t s = by_name (option_and_then (definition defs) (name_of t)) refl (λ d. resolved_small n d.ty)
    where
      by_name : (o : Option TypeDef) → option_and_then (definition defs) (name_of t) ≡ o → ((d : TypeDef) → IsSmall d.ty → IsSmall (resolved n defs d.ty)) → IsSmall (option_map_or (λ (d : TypeDef). resolved n defs d.ty) o t)
      by_name None e below = s
      by_name (Some d) e below =
          let r = of_name t d e in
          below d (directly_small t d.ty (contains (directly_in defs t) d.ty (name_leads t r.0 d r.1 r.2)) s)

  pub into_small : (t : IrType) (i : Index) (u : IrType) → GoesInto defs t i u → IsSmall t → IsSmall u
  into_small t i u (inl a) s =
      directly_small (plain defs t) u (contains (directly_in defs (plain defs t)) u (item_leads (plain defs t) a.0 u a.1)) (resolved_small (length defs) t s)
  into_small t i u (inr k) s =
      let r = struct_at (out-IrType (plain defs t)) k.0 u k.3 in
      directly_small (plain defs t) u (contains (directly_in defs (plain defs t)) u (field_leads (plain defs t) r.0 k.0 u r.1 r.2)) (resolved_small (length defs) t s)
