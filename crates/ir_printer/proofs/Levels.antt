-- Marks of types and constants, one level at a time.
use Rattle.std.proofs.Common.{◌≡◌, refl, ap, ◌∙◌, ℕ, List, ◌∷◌, map}
use Rattle.ir_core.specs.declared.ty.IrType.{IrType, Row_of-IrType, end_of-IrType, more_of-IrType, items-the_row-IrType, items_hidden-the_row-IrType-1}
use Rattle.ir_core.specs.declared.ty.IrType.TheBlock.{hidden-the_row-IrType-1}
use Rattle.ir_core.specs.declared.ty.IrType.TheVariants as types
use Rattle.ir_core.specs.declared.constant.TypedConst.{TypedConst}
use Rattle.ir_core.specs.declared.constant.Const.{Row_of-TypedConst, end_of-TypedConst, more_of-TypedConst, items-the_row-TypedConst, items_hidden-the_row-TypedConst-0}
use Rattle.ir_core.specs.declared.constant.Const.TheBlock.{hidden-the_row-TypedConst-0}
use Rattle.ir_core.specs.declared.constant.Const.TheVariants as consts
use Rattle.ir_printer.specs.declared.marks.Mark.{Mark}
use Rattle.ir_printer.specs.Marks.{array_marks, type_marks, types_marks, in_curly, in_square, const_marks, consts_marks, typed_const_marks}

row_types : (n : _) (row : Row_of-IrType n) → types_marks row ≡ map type_marks (items-the_row-IrType n row)
row_types _ end_of-IrType = refl
row_types _ (more_of-IrType t ts) = ap (λ (parts : List (List Mark)). type_marks t ∷ parts) (row_types _ ts)

pub struct_type : (fields : List IrType) → type_marks (types.Struct fields) ≡ in_curly (map type_marks fields)
struct_type fields = ap in_curly (row_types _ (hidden-the_row-IrType-1 fields) ∙ ap (map type_marks) (items_hidden-the_row-IrType-1 fields))

pub array_type : (n : ℕ) (item : IrType) → type_marks (types.Array n item) ≡ array_marks n (type_marks item)
unfolding Rattle.ir_core.specs.declared.ty.IrType.TheBlock.hidden-the_row-IrType-0 denote.Hole.Carrier.hidden
array_type n item = refl

row_consts : (n : _) (row : Row_of-TypedConst n) → consts_marks row ≡ map typed_const_marks (items-the_row-TypedConst n row)
row_consts _ end_of-TypedConst = refl
row_consts _ (more_of-TypedConst t c cs) = ap (λ (parts : List (List Mark)). typed_const_marks (record { ty = t; value = c }) ∷ parts) (row_consts _ cs)

pub array_const : (items : List TypedConst) → const_marks (consts.Array items) ≡ in_square (map typed_const_marks items)
array_const items = ap in_square (row_consts _ (hidden-the_row-TypedConst-0 items) ∙ ap (map typed_const_marks) (items_hidden-the_row-TypedConst-0 items))

pub struct_const : (fields : List TypedConst) → const_marks (consts.Struct fields) ≡ in_curly (map typed_const_marks fields)
struct_const fields = ap in_curly (row_consts _ (hidden-the_row-TypedConst-0 fields) ∙ ap (map typed_const_marks) (items_hidden-the_row-TypedConst-0 fields))
