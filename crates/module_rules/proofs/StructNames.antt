-- By the emptied definitions a name has a layout exactly where it stands for a struct.
use Rattle.std.proofs.Common.{◌≡◌, refl, sym, ap, ◌∙◌, subst, cond, ℕ, ◌+◌, zero, suc, List, [], ◌∷◌, map, length, Option, Some, None, slice_get, is_some}
use Rattle.std.specs.Bool.{Decides}
use Rattle.std.specs.Option.{option_map, option_map_or, option_and_then}
use Rattle.std.specs.List.{position_from}
use Rattle.std.proofs.lemmas.List.{length-map}
use Rattle.std.proofs.lemmas.Option.{slice_get-map}
use Rattle.ir_core.specs.declared.ty.TypeName.{TypeName}
use Rattle.ir_core.specs.declared.ty.TypeDef.{TypeDef}
use Rattle.ir_core.specs.declared.ty.IrType.{IrType, Void, Int, Ptr, Array', Struct', Named, Row_of-IrType, end_of-IrType, more_of-IrType, items-the_row-IrType, out-IrType}
use Rattle.ir_core.specs.declared.ty.IrType.TheOpen.{IrType-F}
use Rattle.ir_core.specs.declared.ty.IrType.TheVariants as types
use Rattle.ir_core.specs.declared.ty.IrType.TheVariants.{outs-Void, outs-Int, outs-Ptr, outs-Array, outs-Struct', outs-Named}
use Rattle.ir_core.specs.Sizes.{layout_by, is_named, definition, name_layout, layout, name_of, resolved}
use Rattle.ir_core.specs.ValidTypes.{StandsForStruct}
use Rattle.ir_core.proofs.Layouts.{at_struct}
use Rattle.module_rules.specs.TypeFaults.{emptied, emptied_def, emptied_defs, is_laid_name}
use Rattle.module_rules.proofs.Decided.{never}

-- ---- definitions of names by other definitions of the same names

module _ (by : IrType → IrType) where
  abbrev pub def_by : TypeDef → TypeDef
  def_by d = record { place = d.place; name = d.name; ty = by d.ty }

  position_by : (x : TypeName) (i : ℕ) (ds : List TypeDef) → position_from (is_named x.0) i (map def_by ds) ≡ position_from (is_named x.0) i ds
  position_by x i [] = refl
  position_by x i (d ∷ ds) = ap (λ (o : Option ℕ). cond (is_named x.0 d) (Some i) o) (position_by x (i + 1) ds)

  at_by : (defs : List TypeDef) (o : Option ℕ) → option_and_then (λ (at : ℕ). slice_get (map def_by defs) at) o ≡ option_map def_by (option_and_then (λ (at : ℕ). slice_get defs at) o)
  at_by defs None = refl
  at_by defs (Some k) = slice_get-map def_by defs k

  pub definition_by : (defs : List TypeDef) (x : TypeName) → definition (map def_by defs) x ≡ option_map def_by (definition defs x)
  definition_by defs x =
      ap (λ (o : Option ℕ). option_and_then (λ (at : ℕ). slice_get (map def_by defs) at) o) (position_by x 0 defs)
      ∙ at_by defs (position_from (is_named x.0) 0 defs)

-- ---- structs

abbrev pub IsStruct : IrType → Type 0
IsStruct t = (fields : List IrType) × (out-IrType t ≡ IrType-F.Struct fields)

pub resolved_itself : (n : ℕ) (defs : List TypeDef) (t : IrType) → name_of t ≡ None → resolved n defs t ≡ t
resolved_itself zero defs t e = refl
resolved_itself (suc n) defs t e = ap (λ (o : Option TypeName). option_map_or (λ (d : TypeDef). resolved n defs d.ty) (option_and_then (definition defs) o) t) e

pub name_no_struct : (x : TypeName) → IsStruct (Named x) → ⊥
name_no_struct x s = let clash : IrType-F.Named x ≡ IrType-F.Struct s.0 = sym (outs-Named x) ∙ s.1 in cc

no_array : (k : ℕ) (item : IrType) → IsStruct (types.Array k item) → ⊥
no_array k item s = let clash : IrType-F.Array k item ≡ IrType-F.Struct s.0 = sym (outs-Array k item) ∙ s.1 in cc

array_case : (k : ℕ) (m : _) (item : IrType) → IsStruct (Array' k m (more_of-IrType item end_of-IrType)) → ⊥
unfolding Rattle.ir_core.specs.declared.ty.IrType.TheBlock.hidden-the_row-IrType-0 denote.Hole.Carrier.hidden
array_case k m item s = no_array k item s

-- a type that is no struct and no name
module _ (n : ℕ) (defs : List TypeDef) where
  no_struct : (t : IrType) → name_of t ≡ None → (IsStruct t → ⊥) → IsStruct (resolved n defs t) → ⊥
  no_struct t e other s = other (subst IsStruct (resolved_itself n defs t e) s)

  of_type : ((y : TypeName) → Decides (is_some (name_layout n (emptied_defs defs) y)) (IsStruct (resolved n defs (Named y)))) → (t : IrType) → Decides (is_some (layout_by (name_layout n (emptied_defs defs)) (emptied t))) (IsStruct (resolved n defs t))
  of_type rest Void = never (no_struct Void refl (λ s. let clash : IrType-F.Void ≡ IrType-F.Struct s.0 = sym outs-Void ∙ s.1 in cc))
  of_type rest (Int w) = never (no_struct (Int w) refl (λ s. let clash : IrType-F.Int w ≡ IrType-F.Struct s.0 = sym (outs-Int w) ∙ s.1 in cc))
  of_type rest Ptr = never (no_struct Ptr refl (λ s. let clash : IrType-F.Ptr ≡ IrType-F.Struct s.0 = sym outs-Ptr ∙ s.1 in cc))
  of_type rest (Array' k m (more_of-IrType item end_of-IrType)) = never (no_struct (Array' k m (more_of-IrType item end_of-IrType)) refl (array_case k m item))
  of_type rest (Struct' m fields) = (
    λ e. subst IsStruct (sym (resolved_itself n defs (Struct' m fields) refl)) ((_, outs-Struct' m fields)),
    λ s. ap is_some (at_struct (name_layout n (emptied_defs defs)) []),
  )
  of_type rest (Named y) = rest y

by_depth : (defs : List TypeDef) (n : ℕ) (x : TypeName) → Decides (is_some (name_layout n (emptied_defs defs) x)) (IsStruct (resolved n defs (Named x)))
by_depth defs zero x = never (name_no_struct x)
by_depth defs (suc n) x =
    subst (λ (o : Option TypeDef). Decides (is_some (option_and_then (λ (d : TypeDef). layout_by (name_layout n (emptied_defs defs)) d.ty) o)) (IsStruct (resolved (suc n) defs (Named x))))
    (sym (definition_by emptied defs x)) (by_definition (λ y. by_depth defs n y) (definition defs x))
  where
    by_definition : ((y : TypeName) → Decides (is_some (name_layout n (emptied_defs defs) y)) (IsStruct (resolved n defs (Named y)))) → (o : Option TypeDef) → Decides (is_some (option_and_then (λ (d : TypeDef). layout_by (name_layout n (emptied_defs defs)) d.ty) (option_map emptied_def o))) (IsStruct (option_map_or (λ (d : TypeDef). resolved n defs d.ty) o (Named x)))
    by_definition rest None = never (name_no_struct x)
    by_definition rest (Some d) = of_type n defs rest d.ty

pub struct_decides : (defs : List TypeDef) (x : TypeName) → Decides (is_laid_name (emptied_defs defs) x) (StandsForStruct defs x)
unfolding layout
struct_decides defs x =
    subst (λ (n : ℕ). Decides (is_some (name_layout n (emptied_defs defs) x)) (StandsForStruct defs x)) (sym (length-map defs emptied_def)) (by_depth defs (length defs) x)
