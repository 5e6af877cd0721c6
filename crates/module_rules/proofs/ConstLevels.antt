-- What stands in a constant, one level at a time.
use Rattle.std.proofs.Common.{◌≡◌, ap, refl, ◌∙◌, List, ◌++◌}
use Rattle.std.specs.List.{flat_map}
use Rattle.ir_core.specs.declared.ty.IrType.{IrType}
use Rattle.ir_core.specs.declared.constant.TypedConst.{TypedConst}
use Rattle.ir_core.specs.declared.constant.Const.{Row_of-TypedConst, end_of-TypedConst, more_of-TypedConst, items-the_row-TypedConst, items_hidden-the_row-TypedConst-0}
use Rattle.ir_core.specs.declared.constant.Const.TheBlock.{hidden-the_row-TypedConst-0}
use Rattle.ir_core.specs.declared.constant.Const.TheVariants as consts
use Rattle.ir_core.specs.Parts.{const_types, consts_types}
use Rattle.module_rules.specs.TypeFaults.{typed_const_types}

row_types : (n : _) (row : Row_of-TypedConst n) → consts_types row ≡ flat_map typed_const_types (items-the_row-TypedConst n row)
row_types _ end_of-TypedConst = refl
row_types _ (more_of-TypedConst t c cs) = ap (λ (ts : List IrType). typed_const_types (record { ty = t; value = c }) ++ ts) (row_types _ cs)

pub array_types : (items : List TypedConst) → const_types (consts.Array items) ≡ flat_map typed_const_types items
array_types items = row_types _ (hidden-the_row-TypedConst-0 items) ∙ ap (flat_map typed_const_types) (items_hidden-the_row-TypedConst-0 items)

pub struct_types : (fields : List TypedConst) → const_types (consts.Struct fields) ≡ flat_map typed_const_types fields
struct_types fields = row_types _ (hidden-the_row-TypedConst-0 fields) ∙ ap (flat_map typed_const_types) (items_hidden-the_row-TypedConst-0 fields)
