-- How the indices of a `getelementptr` walk into a type.
use Rattle.std.specs.Prelude.{ℤ, pos, negsuc, Bool, true, false, ◌&&◌, if◌then◌else◌, List, [], ◌∷◌, Option, Some, None, slice_get}
use Rattle.ir_core.specs.declared.ty.TypeDef.{TypeDef}
use Rattle.ir_core.specs.declared.ty.IrType.{IrType, out-IrType}
use Rattle.ir_core.specs.declared.ty.IrType.TheOpen.{IrType-F}
use Rattle.ir_core.specs.Types.{is_integer, is_word}
use Rattle.ir_core.specs.ValidConsts.{Index, plain}

-- the field of this number
abbrev pub field_at : List IrType → Option ℤ → Option IrType
field_at types None = None
field_at types (Some (pos k)) = slice_get types k
field_at types (Some (negsuc k)) = None

-- what an index leads to, from one level of a type
abbrev pub inner : Index → IrType-F IrType → Option IrType
inner i (IrType-F.Array n item) = Some item
inner i (IrType-F.Struct types) = if is_word i.ty then field_at types i.number else None
inner i _ = None

abbrev pub next : List TypeDef → IrType → Index → Option IrType
next defs t i = if is_integer i.ty then inner i (out-IrType (plain defs t)) else None

abbrev pub walks_from : Option IrType → (IrType → Bool) → Bool
walks_from None on = false
walks_from (Some u) on = on u

-- the indices after the first
abbrev pub walks_into : List TypeDef → IrType → List Index → Bool
walks_into defs t [] = true
walks_into defs t (i ∷ is) = walks_from (next defs t i) (λ u. walks_into defs u is)

abbrev pub walks : List TypeDef → IrType → List Index → Bool
walks defs t [] = true
walks defs t (i ∷ is) = is_integer i.ty && walks_into defs t is
