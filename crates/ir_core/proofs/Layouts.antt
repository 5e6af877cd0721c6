-- Each step through a type gives the capped layout of what was gone through.
use Rattle.std.proofs.Common.{◌≡◌, ℕ, min, List, ◌∷◌, map, Option, Some, None, refl, sym, ap, ◌∙◌, arith}
use Rattle.std.specs.Option.{option_map}
use Rattle.ir_core.specs.declared.limits.TheConstants.{TOO_LARGE}
use Rattle.ir_core.specs.declared.layout.Layout.{Layout}
use Rattle.ir_core.specs.declared.ty.TypeName.{TypeName}
use Rattle.ir_core.specs.declared.ty.IrType.{IrType, Row_of-IrType, end_of-IrType, more_of-IrType, items-the_row-IrType, items_hidden-the_row-IrType-1}
use Rattle.ir_core.specs.declared.ty.IrType.TheBlock.{hidden-the_row-IrType-1}
use Rattle.ir_core.specs.declared.ty.IrType.TheVariants as types
use Rattle.ir_core.specs.Capped.{capped}
use Rattle.ir_core.specs.Sizes.{array_of, empty, after, rounded, placed, layout_by, field_layouts}
use Rattle.ir_core.proofs.Capped.{capped-after_capped, capped-rounded, capped-array_of, capped-placed}

pub at_array : (names : TypeName → Option Layout) (n : ℕ) (item : IrType) → layout_by names (types.Array n item) ≡ option_map (array_of n) (layout_by names item)
unfolding Rattle.ir_core.specs.declared.ty.IrType.TheBlock.hidden-the_row-IrType-0 denote.Hole.Carrier.hidden
at_array names n item = refl

row_items : (names : TypeName → Option Layout) (n : _) (row : Row_of-IrType n) → field_layouts names row ≡ map (layout_by names) (items-the_row-IrType n row)
row_items names _ end_of-IrType = refl
row_items names _ (more_of-IrType t ts) = ap (λ (ls : List (Option Layout)). layout_by names t ∷ ls) (row_items names _ ts)

pub at_struct : (names : TypeName → Option Layout) (fields : List IrType) → layout_by names (types.Struct fields) ≡ option_map rounded (placed empty (map (layout_by names) fields))
at_struct names fields = ap (λ (ls : List (Option Layout)). option_map rounded (placed empty ls)) (row_items names _ (hidden-the_row-IrType-1 fields) ∙ ap (map (layout_by names)) (items_hidden-the_row-IrType-1 fields))

capped_twice : (l : Layout) → capped (capped l) ≡ capped l
capped_twice l i = record { size = let e : min (min l.size TOO_LARGE) TOO_LARGE ≡ min l.size TOO_LARGE = omega arith in e i; align = l.align }

pub is_capped : (a b : Layout) → a ≡ capped b → a ≡ capped a
is_capped a b e = e ∙ sym (capped_twice b) ∙ ap capped (sym e)

no_layout : (g : Layout → Layout) (o : Option Layout) → None ≡ option_map capped o → None ≡ option_map capped (option_map g o)
no_layout g None e = refl
no_layout g (Some l) e = cc

one_layout : (g : Layout → Layout) (o : Option Layout) (l w : Layout) → ((a b : Layout) → capped a ≡ capped b → capped (g a) ≡ capped (g b)) → Some l ≡ option_map capped o → w ≡ capped (g l) → Some w ≡ option_map capped (option_map g o)
one_layout g None l w h e k = cc
one_layout g (Some x) l w h e k =
    let same : l ≡ capped x = cc in
    let whole = h l x (ap capped same ∙ capped_twice x) in
    ap Some (k ∙ whole)

capped-arrays : (n : ℕ) (a b : Layout) → capped a ≡ capped b → capped (array_of n a) ≡ capped (array_of n b)
capped-arrays n a b e = sym (capped-array_of n a) ∙ ap (λ (l : Layout). capped (array_of n l)) e ∙ capped-array_of n b

pub array_none : (names : TypeName → Option Layout) (n : ℕ) (item t : IrType) → t ≡ types.Array n item → None ≡ option_map capped (layout_by names item) → None ≡ option_map capped (layout_by names t)
array_none names n item t is e = no_layout (array_of n) (layout_by names item) e ∙ ap (option_map capped) (sym (ap (layout_by names) is ∙ at_array names n item))

pub array_some : (names : TypeName → Option Layout) (n : ℕ) (item t : IrType) (l w : Layout) → t ≡ types.Array n item → Some l ≡ option_map capped (layout_by names item) → w ≡ capped (array_of n l) → Some w ≡ option_map capped (layout_by names t)
array_some names n item t l w is e k = one_layout (array_of n) (layout_by names item) l w (capped-arrays n) e k ∙ ap (option_map capped) (sym (ap (layout_by names) is ∙ at_array names n item))

pub struct_none : (names : TypeName → Option Layout) (fields : List IrType) (t : IrType) → t ≡ types.Struct fields → None ≡ option_map capped (placed empty (map (layout_by names) fields)) → None ≡ option_map capped (layout_by names t)
struct_none names fields t is e = no_layout rounded (placed empty (map (layout_by names) fields)) e ∙ ap (option_map capped) (sym (ap (layout_by names) is ∙ at_struct names fields))

pub struct_some : (names : TypeName → Option Layout) (fields : List IrType) (t : IrType) (l w : Layout) → t ≡ types.Struct fields → Some l ≡ option_map capped (placed empty (map (layout_by names) fields)) → w ≡ capped (rounded l) → Some w ≡ option_map capped (layout_by names t)
struct_some names fields t l w is e k = one_layout rounded (placed empty (map (layout_by names) fields)) l w capped-rounded e k ∙ ap (option_map capped) (sym (ap (layout_by names) is ∙ at_struct names fields))

-- one field more
pub field_placed : (o : Option Layout) (rest : List (Option Layout)) (before l next : Layout) → Some l ≡ option_map capped o → next ≡ capped (after before l) → option_map capped (placed next rest) ≡ option_map capped (placed before (o ∷ rest))
field_placed None rest before l next e k = cc
field_placed (Some x) rest before l next e k =
    let same : l ≡ capped x = cc in
    let one : next ≡ capped (after before x) = k ∙ ap (λ (z : Layout). capped (after before z)) same ∙ capped-after_capped before x in
    capped-placed next (after before x) rest (ap capped one ∙ capped_twice (after before x))
