-- Which types in a type are too large, one level at a time.
use Rattle.std.proofs.Common.{◌≡◌, refl, ap, ◌∙◌, Bool, true, false, ◌||◌, ℕ, List, ◌++◌}
use Rattle.std.specs.List.{flat_map, list_any}
use Rattle.ir_core.specs.declared.ty.TypeDef.{TypeDef}
use Rattle.ir_core.specs.declared.ty.IrType.{IrType, Void, Int, Ptr, Array', Struct', Named, Row_of-IrType, end_of-IrType, more_of-IrType, items-the_row-IrType, items_hidden-the_row-IrType-1}
use Rattle.ir_core.specs.declared.ty.IrType.TheBlock.{hidden-the_row-IrType-1}
use Rattle.ir_core.specs.declared.ty.IrType.TheVariants as types
use Rattle.ir_core.specs.declared.constant.TypedConst.{TypedConst}
use Rattle.ir_core.specs.declared.constant.Const.{Row_of-TypedConst, end_of-TypedConst, more_of-TypedConst, items-the_row-TypedConst, items_hidden-the_row-TypedConst-0}
use Rattle.ir_core.specs.declared.constant.Const.TheBlock.{hidden-the_row-TypedConst-0}
use Rattle.ir_core.specs.declared.constant.Const.TheVariants as consts
use Rattle.ir_core.specs.ValidTypes.{const_sources, consts_sources}
use Rattle.module_rules.specs.SizeFaults.{is_above, has_above, have_above, typed_const_sources}

or_false : (b : Bool) → (b || false) ≡ b
or_false true = refl
or_false false = refl

or_left : (a b : Bool) → a ≡ true → (a || b) ≡ true
or_left true b e = refl
or_left false b e = let clash : false ≡ true = e in cc

module _ (defs : List TypeDef) where
  -- a type that is too large itself
  pub above_itself : (t : IrType) → is_above defs t ≡ true → has_above defs t ≡ true
  above_itself Void e = or_left (is_above defs Void) false e
  above_itself (Int w) e = or_left (is_above defs (Int w)) false e
  above_itself Ptr e = or_left (is_above defs Ptr) false e
  above_itself (Array' n m items) e = or_left (is_above defs (Array' n m items)) (have_above defs items) e
  above_itself (Struct' m fields) e = or_left (is_above defs (Struct' m fields)) (have_above defs fields) e
  above_itself (Named x) e = or_left (is_above defs (Named x)) false e

  pub array_above_is : (n : ℕ) (item : IrType) → has_above defs (types.Array n item) ≡ (is_above defs (types.Array n item) || has_above defs item)
  unfolding Rattle.ir_core.specs.declared.ty.IrType.TheBlock.hidden-the_row-IrType-0 denote.Hole.Carrier.hidden
  array_above_is n item = ap (λ (b : Bool). is_above defs (types.Array n item) || b) (or_false (has_above defs item))

  pub row_above : (n : _) (row : Row_of-IrType n) → have_above defs row ≡ list_any (has_above defs) (items-the_row-IrType n row)
  row_above _ end_of-IrType = refl
  row_above _ (more_of-IrType t ts) = ap (λ (b : Bool). has_above defs t || b) (row_above _ ts)

  pub struct_above_is : (fields : List IrType) → has_above defs (types.Struct fields) ≡ (is_above defs (types.Struct fields) || list_any (has_above defs) fields)
  struct_above_is fields =
      ap (λ (b : Bool). is_above defs (types.Struct fields) || b)
      (row_above _ (hidden-the_row-IrType-1 fields) ∙ ap (list_any (has_above defs)) (items_hidden-the_row-IrType-1 fields))

  pub array_above : (n : ℕ) (item : IrType) → is_above defs (types.Array n item) ≡ false → has_above defs (types.Array n item) ≡ has_above defs item
  array_above n item e = array_above_is n item ∙ ap (λ (b : Bool). b || has_above defs item) e

  pub struct_above : (fields : List IrType) → is_above defs (types.Struct fields) ≡ false → has_above defs (types.Struct fields) ≡ list_any (has_above defs) fields
  struct_above fields e = struct_above_is fields ∙ ap (λ (b : Bool). b || list_any (has_above defs) fields) e

row_sources : (n : _) (row : Row_of-TypedConst n) → consts_sources row ≡ flat_map typed_const_sources (items-the_row-TypedConst n row)
row_sources _ end_of-TypedConst = refl
row_sources _ (more_of-TypedConst t c cs) = ap (λ (ts : List IrType). const_sources c ++ ts) (row_sources _ cs)

pub array_sources : (items : List TypedConst) → const_sources (consts.Array items) ≡ flat_map typed_const_sources items
array_sources items = row_sources _ (hidden-the_row-TypedConst-0 items) ∙ ap (flat_map typed_const_sources) (items_hidden-the_row-TypedConst-0 items)

pub struct_sources : (fields : List TypedConst) → const_sources (consts.Struct fields) ≡ flat_map typed_const_sources fields
struct_sources fields = row_sources _ (hidden-the_row-TypedConst-0 fields) ∙ ap (flat_map typed_const_sources) (items_hidden-the_row-TypedConst-0 fields)
