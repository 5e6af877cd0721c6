-- Where a struct's fields stand, and that looking through type names keeps a type's layout.
use Rattle.std.proofs.Common.{◌≡◌, ℕ, ◌<◌, ◌≤◌, min, zero, suc, List, [], ◌∷◌, length, take, map, Option, Some, None, refl, sym, ap, ◌∙◌, subst, arith}
use Rattle.std.specs.Prelude.{IsSome, unwrap_or}
use Rattle.std.specs.List.{slice_get}
use Rattle.std.specs.Int.{next_multiple_of}
use Rattle.std.specs.Option.{option_map, option_map_or, option_and_then}
use Rattle.std.proofs.lemmas.List.{length-map}
use Rattle.std.proofs.lemmas.Option.{slice_get-map}
use Rattle.ir_core.specs.declared.limits.TheConstants.{LARGEST, TOO_LARGE}
use Rattle.ir_core.specs.declared.layout.Layout.{Layout}
use Rattle.ir_core.specs.declared.layout.Name.{Name}
use Rattle.ir_core.specs.declared.ty.TypeName.{TypeName}
use Rattle.ir_core.specs.declared.ty.TypeDef.{TypeDef}
use Rattle.ir_core.specs.declared.ty.IrType.{IrType, Void, Int, Ptr, Array', Struct', Named}
use Rattle.ir_core.specs.declared.ty.IrType.TheVariants as types
use Rattle.ir_core.specs.declared.ty.IrType.TheVariants.{rolls-Struct}
use Rattle.ir_core.specs.declared.ty.IrType.TheOpen.{IrType-F}
use Rattle.ir_core.specs.declared.ty.IrType.TheViews.{out-IrType, out-roll-IrType}
use Rattle.ir_core.specs.Capped.{capped}
use Rattle.ir_core.specs.Sizes.{empty, offset_after, after, rounded, placed, layout_by, definition, name_layout, layout, IsLaid, size, name_of, resolved, types_in, struct_types, offset_from, fields, offset}
use Rattle.ir_core.specs.Known.{Knows, Describes}
use Rattle.ir_core.proofs.Layouts.{at_struct}
use Rattle.ir_core.proofs.Names.{within_type, deeper}

pub resolved_some : (n m : ℕ) (defs : List TypeDef) (t : IrType) (d : TypeDef) → option_and_then (definition defs) (name_of t) ≡ Some d → n ≡ suc m → resolved n defs t ≡ resolved m defs d.ty
resolved_some n m defs t d e s = ap (λ (k : ℕ). resolved k defs t) s ∙ ap (λ (o : Option TypeDef). option_map_or (λ (b : TypeDef). resolved m defs b.ty) o t) e

is_name : (t : IrType) (x : TypeName) → name_of t ≡ Some x → t ≡ Named x
is_name Void x e = cc
is_name (Int w) x e = cc
is_name Ptr x e = cc
is_name (Array' n _ _) x e = cc
is_name (Struct' _ _) x e = cc
is_name (Named y) x e = cc

of_name : (defs : List TypeDef) (t : IrType) (d : TypeDef) → option_and_then (definition defs) (name_of t) ≡ Some d → (x : TypeName) × (t ≡ Named x) × (definition defs x ≡ Some d)
of_name defs t d e = by_name (name_of t) refl e
  where
    by_name : (o : Option TypeName) → name_of t ≡ o → option_and_then (definition defs) o ≡ Some d → (x : TypeName) × (t ≡ Named x) × (definition defs x ≡ Some d)
    by_name None s f = cc
    by_name (Some x) s f = (x, is_name t x s, f)

-- a name's layout is that of what it stands for
pub named_layout : (defs : List TypeDef) (x : TypeName) (d : TypeDef) (l : Layout) → definition defs x ≡ Some d → layout defs (Named x) ≡ Some l → layout defs d.ty ≡ Some l
unfolding layout
named_layout defs x d l e f = by_depth (length defs) f
  where
    by_depth : (n : ℕ) → name_layout n defs x ≡ Some l → layout_by (name_layout n defs) d.ty ≡ Some l
    by_depth zero g = cc
    by_depth (suc n) g =
        let below : layout_by (name_layout n defs) d.ty ≡ Some l = sym (ap (option_and_then (λ (b : TypeDef). layout_by (name_layout n defs) b.ty)) e) ∙ g in
        within_type (name_layout n defs) (name_layout (suc n) defs) (deeper n defs) d.ty l below

pub resolved_layout : (n : ℕ) (defs : List TypeDef) (t : IrType) (l : Layout) → layout defs t ≡ Some l → layout defs (resolved n defs t) ≡ Some l
resolved_layout zero defs t l e = e
resolved_layout (suc n) defs t l e = by_name (option_and_then (definition defs) (name_of t)) refl (λ d f. resolved_layout n defs d.ty l f)
  where
    by_name : (o : Option TypeDef) → option_and_then (definition defs) (name_of t) ≡ o → ((d : TypeDef) → layout defs d.ty ≡ Some l → layout defs (resolved n defs d.ty) ≡ Some l) → layout defs (option_map_or (λ (d : TypeDef). resolved n defs d.ty) o t) ≡ Some l
    by_name None s below = e
    by_name (Some d) s below =
        let r = of_name defs t d s in
        below d (named_layout defs r.0 d l r.2 (ap (layout defs) (sym r.1) ∙ e))

grows : (c r : Layout) (ls : List (Option Layout)) → placed c ls ≡ Some r → c.size ≤ r.size
grows c r [] e = let same : c ≡ r = cc in let s = ap Layout.size same in omega arith
grows c r (None ∷ ls) e = cc
grows c r (Some f ∷ ls) e = let more = grows (after c f) r ls e in omega arith

-- a struct cut at a field
record Cut (c : Layout) (ls : List (Option Layout)) (i : ℕ) (r : Layout) : Type 0 where
  pub before : Layout
  pub field : Layout
  pub placed_before : placed c (take i ls) ≡ Some before
  pub there : slice_get ls i ≡ Some (Some field)
  pub offset_there : offset_from c ls i ≡ Some (offset_after before field)
  pub within : offset_after before field ≤ r.size

cut : (c r : Layout) (ls : List (Option Layout)) (i : ℕ) → placed c ls ≡ Some r → i < length ls → Cut c ls i r
cut c r [] i e h = absurd (omega arith)
cut c r (None ∷ ls) i e h = cc
cut c r (Some f ∷ ls) zero e h = record {
  before = c;
  field = f;
  placed_before = refl;
  there = refl;
  offset_there = refl;
  within = let more = grows (after c f) r ls e in omega arith;
}
cut c r (Some f ∷ ls) (suc i) e h =
    let k = cut (after c f) r ls i e (omega arith) in
    record { before = k.before; field = k.field; placed_before = k.placed_before; there = k.there; offset_there = k.offset_there; within = k.within }

-- where a struct has a layout, its fields' layouts give it
pub struct_layout : (defs : List TypeDef) (ts : List IrType) (l : Layout) → layout defs (types.Struct ts) ≡ Some l → (r : Layout) × (placed empty (map (layout defs) ts) ≡ Some r) × (l ≡ rounded r)
unfolding layout
struct_layout defs ts l e = by_fields (placed empty (map (layout_by (name_layout (length defs) defs)) ts)) refl (sym (at_struct (name_layout (length defs) defs) ts) ∙ e)
  where
    by_fields : (o : Option Layout) → placed empty (map (layout_by (name_layout (length defs) defs)) ts) ≡ o → option_map rounded o ≡ Some l → (r : Layout) × (placed empty (map (layout_by (name_layout (length defs) defs)) ts) ≡ Some r) × (l ≡ rounded r)
    by_fields None s f = cc
    by_fields (Some r) s f = (r, s, cc)

take_map : (f : IrType → Option Layout) (i : ℕ) (ts : List IrType) → take i (map f ts) ≡ map f (take i ts)
take_map f zero ts = refl
take_map f (suc i) [] = refl
take_map f (suc i) (t ∷ ts) = ap (λ (ls : List (Option Layout)). f t ∷ ls) (take_map f i ts)

pub types_of_struct : (ts : List IrType) → struct_types (types.Struct ts) ≡ ts
types_of_struct ts = ap types_in (ap out-IrType (sym (rolls-Struct ts)) ∙ out-roll-IrType (IrType-F.Struct ts))

-- what an offset's computation with capped sizes gives is the offset, where the struct isn't too large
module _ (table : List Name) (defs : List TypeDef) (t : IrType) (ts : List IrType) (i result : ℕ) (d : Describes table defs) (laid : IsLaid defs t) (small : size defs t ≤ LARGEST) (is : resolved (length defs) defs t ≡ types.Struct ts) (h : i < length (fields defs t))
    (found : (names : TypeName → Option Layout) → Knows table names → (before field : Layout) (at : IrType) → placed empty (map (layout_by names) (take i ts)) ≡ Some before → slice_get ts i ≡ Some at → layout_by names at ≡ Some field → result ≡ min (next_multiple_of (capped before).size field.align) TOO_LARGE) where
  the_type : (o : Option IrType) (f : Layout) → option_map (layout defs) o ≡ Some (Some f) → (at : IrType) × (o ≡ Some at) × (layout defs at ≡ Some f)
  the_type None f e = cc
  the_type (Some at) f e = (at, refl, cc)

  fields_are : fields defs t ≡ ts
  fields_are = ap struct_types is ∙ types_of_struct ts

  at_cut : (r : Layout) → placed empty (map (layout defs) ts) ≡ Some r → (rounded r).size ≤ LARGEST → offset_from empty (map (layout defs) ts) i ≡ Some result
  unfolding layout
  at_cut r e le =
      let k = cut empty r (map (layout defs) ts) i e (let n : length (map (layout defs) ts) ≡ length ts = length-map ts (layout defs) in let m : length (fields defs t) ≡ length ts = ap length fields_are in omega arith) in
      let there = the_type (slice_get ts i) k.field (sym (slice_get-map (layout defs) ts i) ∙ k.there) in
      let before : placed empty (map (layout defs) (take i ts)) ≡ Some k.before = ap (placed empty) (sym (take_map (layout defs) i ts)) ∙ k.placed_before in
      let gives : result ≡ min (next_multiple_of (capped k.before).size k.field.align) TOO_LARGE = found (name_layout (length defs) defs) d.layouts k.before k.field there.0 before there.1 there.2 in
      let within = k.within in
      let fits : k.before.size ≤ LARGEST = omega arith in
      let exact : min k.before.size TOO_LARGE ≡ k.before.size = omega arith in
      let same : min (next_multiple_of (capped k.before).size k.field.align) TOO_LARGE ≡ min (next_multiple_of k.before.size k.field.align) TOO_LARGE = ap (λ (z : ℕ). min (next_multiple_of z k.field.align) TOO_LARGE) exact in
      let all : min (next_multiple_of k.before.size k.field.align) TOO_LARGE ≡ offset_after k.before k.field = omega arith in
      k.offset_there ∙ ap Some (sym (gives ∙ same ∙ all))

  pub offset_is : offset defs t i ≡ Some result
  offset_is = ap (λ (xs : List IrType). offset_from empty (map (layout defs) xs) i) fields_are ∙ by_layout (layout defs t) refl laid small
    where
      by_layout : (o : Option Layout) → layout defs t ≡ o → IsSome o → (unwrap_or o empty).size ≤ LARGEST → offset_from empty (map (layout defs) ts) i ≡ Some result
      by_layout None s some le = cc
      by_layout (Some l) s some le =
          let r = struct_layout defs ts l (ap (layout defs) (sym is) ∙ resolved_layout (length defs) defs t l s) in
          at_cut r.0 r.1 (subst (λ (z : Layout). z.size ≤ LARGEST) r.2 le)
