-- What stands in a type, one level at a time.
use Rattle.std.proofs.Common.{◌≡◌, refl, ap, ◌∙◌, Bool, true, false, ◌||◌, ℕ, List, ◌++◌}
use Rattle.std.specs.List.{flat_map, list_any}
use Rattle.std.proofs.lemmas.List.{append-nil}
use Rattle.ir_core.specs.declared.ty.TypeName.{TypeName}
use Rattle.ir_core.specs.declared.ty.IrType.{IrType, Row_of-IrType, end_of-IrType, more_of-IrType, items-the_row-IrType, items_hidden-the_row-IrType-1}
use Rattle.ir_core.specs.declared.ty.IrType.TheBlock.{hidden-the_row-IrType-1}
use Rattle.ir_core.specs.declared.ty.IrType.TheVariants as types
use Rattle.ir_core.specs.Parts.{names_in_type, names_in_types}
use Rattle.module_rules.specs.TypeFaults.{has_void, have_void}

or_false : (b : Bool) → (b || false) ≡ b
or_false true = refl
or_false false = refl

row_void : (n : _) (row : Row_of-IrType n) → have_void row ≡ list_any has_void (items-the_row-IrType n row)
row_void _ end_of-IrType = refl
row_void _ (more_of-IrType t ts) = ap (λ (b : Bool). has_void t || b) (row_void _ ts)

pub struct_void : (fields : List IrType) → has_void (types.Struct fields) ≡ list_any has_void fields
struct_void fields = row_void _ (hidden-the_row-IrType-1 fields) ∙ ap (list_any has_void) (items_hidden-the_row-IrType-1 fields)

pub array_void : (n : ℕ) (item : IrType) → has_void (types.Array n item) ≡ has_void item
unfolding Rattle.ir_core.specs.declared.ty.IrType.TheBlock.hidden-the_row-IrType-0 denote.Hole.Carrier.hidden
array_void n item = or_false (has_void item)

pub row_names : (n : _) (row : Row_of-IrType n) → names_in_types row ≡ flat_map names_in_type (items-the_row-IrType n row)
row_names _ end_of-IrType = refl
row_names _ (more_of-IrType t ts) = ap (λ (xs : List TypeName). names_in_type t ++ xs) (row_names _ ts)

pub struct_names : (fields : List IrType) → names_in_type (types.Struct fields) ≡ flat_map names_in_type fields
struct_names fields = row_names _ (hidden-the_row-IrType-1 fields) ∙ ap (flat_map names_in_type) (items_hidden-the_row-IrType-1 fields)

pub array_names : (n : ℕ) (item : IrType) → names_in_type (types.Array n item) ≡ names_in_type item
unfolding Rattle.ir_core.specs.declared.ty.IrType.TheBlock.hidden-the_row-IrType-0 denote.Hole.Carrier.hidden
array_names n item = append-nil (names_in_type item)
