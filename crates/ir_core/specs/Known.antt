-- What a table of type names says of definitions.
use Rattle.std.specs.Prelude.{◌≡◌, ℕ, ◌+◌, List, [], ◌∷◌, length, Option, Some, None, is_some, slice_index_or, if◌then◌else◌}
use Rattle.std.specs.Option.{option_map, option_and_then}
use Rattle.std.specs.List.{position_from}
use Rattle.ir_core.specs.declared.layout.Layout.{Layout}
use Rattle.ir_core.specs.declared.layout.Name.{Name}
use Rattle.ir_core.specs.declared.layout.Name.TheVariants.{Undefined, Defined, Laid}
use Rattle.ir_core.specs.declared.ty.TypeName.{TypeName}
use Rattle.ir_core.specs.declared.ty.TypeDef.{TypeDef}
use Rattle.ir_core.specs.Capped.{capped}
use Rattle.ir_core.specs.Sizes.{is_named, definition, layout_by, name_layout}

-- a name beyond the table is undefined
abbrev pub name_at : List Name → ℕ → Name
name_at table x = slice_index_or table x Undefined

abbrev pub position_in : Name → Option ℕ
position_in Undefined = None
position_in (Defined at) = Some at
position_in (Laid at layout) = Some at

abbrev pub layout_in : Name → Option Layout
layout_in Undefined = None
layout_in (Defined at) = None
layout_in (Laid at layout) = Some layout

abbrev pub known : List Name → TypeName → Option Layout
known table x = layout_in (name_at table x.0)

-- the table has these names' layouts and no others
abbrev pub Knows : List Name → (TypeName → Option Layout) → Type 0
Knows table names = (x : TypeName) → known table x ≡ option_map capped (names x)

-- the table has the position of each name's first definition
abbrev pub HasPositions : List Name → List TypeDef → Type 0
HasPositions table defs = (x : ℕ) → position_in (name_at table x) ≡ position_from (is_named x) 0 defs

abbrev pub HasNoLayouts : List Name → Type 0
HasNoLayouts table = (x : ℕ) → layout_in (name_at table x) ≡ None

-- the layouts in the table are those of the names, of which some may be missing
pub record IsRight (table : List Name) (defs : List TypeDef) : Type 0 where
  pub positions : HasPositions table defs
  pub layouts : (x : TypeName) (l : Layout) → known table x ≡ Some l → option_map capped (name_layout (length defs) defs x) ≡ Some l

-- the names' layouts, as far as the table has them
abbrev pub so_far : List Name → List TypeDef → TypeName → Option Layout
so_far table defs x = if is_some (known table x) then name_layout (length defs) defs x else None

-- a name without a layout gets none from the layouts in the table
abbrev pub IsStuck : List Name → List TypeDef → TypeName → Type 0
IsStuck table defs x = known table x ≡ None → option_and_then (λ (d : TypeDef). layout_by (so_far table defs) d.ty) (definition defs x) ≡ None

-- how many names have a definition and no layout
abbrev pub unlaid : List Name → ℕ
unlaid [] = 0
unlaid (Undefined ∷ names) = unlaid names
unlaid (Defined at ∷ names) = unlaid names + 1
unlaid (Laid at layout ∷ names) = unlaid names

-- the table says all of the definitions
pub record Describes (table : List Name) (defs : List TypeDef) : Type 0 where
  pub positions : HasPositions table defs
  pub layouts : Knows table (name_layout (length defs) defs)
