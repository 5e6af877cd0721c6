-- Sizes and alignments of types, in bytes.
use Rattle.std.specs.Prelude.{ℕ, ◌+◌, ◌*◌, ◌==◌, List, [], ◌∷◌, Bool, length, map, slice_get, max, zero, suc, Option, Some, None, IsSome, unwrap_or}
use Rattle.std.specs.Option.{option_map, option_map_or, option_and_then}
use Rattle.std.specs.List.{position_from}
use Rattle.std.specs.Int.{next_multiple_of}
use Rattle.oi_base.specs.declared.words.Width.{Width}
use Rattle.oi_base.specs.declared.words.Width.TheVariants.{W1, W8, W16, W32}
use Rattle.ir_core.specs.declared.layout.Layout.{Layout}
use Rattle.ir_core.specs.declared.ty.TypeName.{TypeName}
use Rattle.ir_core.specs.declared.ty.TypeDef.{TypeDef}
use Rattle.ir_core.specs.declared.ty.IrType.{IrType, Void, Int, Ptr, Array', Struct', Named, Row_of-IrType, end_of-IrType, more_of-IrType, out-IrType}
use Rattle.ir_core.specs.declared.ty.IrType.TheOpen.{IrType-F}

-- what is as large as it is aligned
abbrev pub natural : ℕ → Layout
natural n = record { size = n; align = n }

abbrev pub word_layout : Width → Layout
word_layout W1 = natural 1
word_layout W8 = natural 1
word_layout W16 = natural 2
word_layout W32 = natural 4

-- an array has its element's alignment
abbrev pub array_of : ℕ → Layout → Layout
array_of n item = record { size = n * item.size; align = item.align }

-- a struct without fields
abbrev pub empty : Layout
empty = record { size = 0; align = 1 }

-- a field stands at the next multiple of its alignment
abbrev pub offset_after : Layout → Layout → ℕ
offset_after before field = next_multiple_of before.size field.align

-- what a struct takes with one field more, but for the padding at its end
abbrev pub after : Layout → Layout → Layout
after before field = record { size = offset_after before field + field.size; align = max before.align field.align }

-- a struct's size is rounded up to its greatest alignment
abbrev pub rounded : Layout → Layout
rounded all = record { size = next_multiple_of all.size all.align; align = all.align }

-- fields one after the other, where each has a layout
abbrev pub placed : Layout → List (Option Layout) → Option Layout
placed before [] = Some before
placed before (None ∷ fields) = None
placed before (Some field ∷ fields) = placed (after before field) fields

-- a type's layout from those of the type names in it; `void` has none
abbrev mutual
  pub layout_by : (TypeName → Option Layout) → IrType → Option Layout
  layout_by names Void = None
  layout_by names (Int w) = Some (word_layout w)
  layout_by names Ptr = Some (natural 4)
  layout_by names (Array' n _ (more_of-IrType item end_of-IrType)) = option_map (array_of n) (layout_by names item)
  layout_by names (Struct' _ fields) = option_map rounded (placed empty (field_layouts names fields))
  layout_by names (Named x) = names x

  pub field_layouts : (TypeName → Option Layout) → {m : _} → Row_of-IrType m → List (Option Layout)
  field_layouts names end_of-IrType = []
  field_layouts names (more_of-IrType t ts) = layout_by names t ∷ field_layouts names ts

abbrev pub is_named : ℕ → TypeDef → Bool
is_named x d = d.name.0 == x

-- what a type name stands for: its first definition
abbrev pub definition : List TypeDef → TypeName → Option TypeDef
definition defs x = option_and_then (λ (at : ℕ). slice_get defs at) (position_from (is_named x.0) 0 defs)

-- a type name's layout, where its definition and those that this one leads to lie at most n deep in one another
abbrev pub name_layout : ℕ → List TypeDef → TypeName → Option Layout
name_layout zero defs x = None
name_layout (suc n) defs x = option_and_then (λ (d : TypeDef). layout_by (name_layout n defs) d.ty) (definition defs x)

-- A type's layout. It has none exactly where it leads to `void`, to a name without a definition, or to a name that
-- leads back to itself: definitions that lie in one another without a cycle are no deeper than there are definitions.
unfoldable pub layout : List TypeDef → IrType → Option Layout
layout defs t = layout_by (name_layout (length defs) defs) t

-- type names are defined, none leads back to itself, and no `void` stands in the type, also through a type name
abbrev pub IsLaid : List TypeDef → IrType → Type 0
IsLaid defs t = IsSome (layout defs t)

abbrev pub size : List TypeDef → IrType → ℕ
size defs t = (unwrap_or (layout defs t) empty).size

abbrev pub align : List TypeDef → IrType → ℕ
align defs t = (unwrap_or (layout defs t) empty).align

abbrev pub name_of : IrType → Option TypeName
name_of Void = None
name_of (Int w) = None
name_of Ptr = None
name_of (Array' n _ _) = None
name_of (Struct' _ _) = None
name_of (Named x) = Some x

-- what a type is without the names that stand for it, of which at most n are looked through
abbrev pub resolved : ℕ → List TypeDef → IrType → IrType
resolved zero defs t = t
resolved (suc n) defs t = option_map_or (λ (d : TypeDef). resolved n defs d.ty) (option_and_then (definition defs) (name_of t)) t

-- the types of a struct's fields, of one level of a type
abbrev pub types_in : IrType-F IrType → List IrType
types_in IrType-F.Void = []
types_in (IrType-F.Int w) = []
types_in IrType-F.Ptr = []
types_in (IrType-F.Array n item) = []
types_in (IrType-F.Struct fields) = fields
types_in (IrType-F.Named x) = []

abbrev pub struct_types : IrType → List IrType
struct_types t = types_in (out-IrType t)

-- where a field stands after those before it
abbrev pub offset_from : Layout → List (Option Layout) → ℕ → Option ℕ
offset_from before [] i = None
offset_from before (None ∷ fields) i = None
offset_from before (Some field ∷ fields) zero = Some (offset_after before field)
offset_from before (Some field ∷ fields) (suc i) = offset_from (after before field) fields i

-- the fields of the struct that a type stands for
abbrev pub fields : List TypeDef → IrType → List IrType
fields defs t = struct_types (resolved (length defs) defs t)

abbrev pub offset : List TypeDef → IrType → ℕ → Option ℕ
offset defs t i = offset_from empty (map (layout defs) (fields defs t)) i
