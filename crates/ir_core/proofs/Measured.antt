-- What the capped layout of a type says of its size, its alignment and its fields' places.
use Rattle.std.proofs.Common.{◌≡◌, min, List, length, Option, Some, None, refl, ap, ◌∙◌}
use Rattle.std.specs.Prelude.{IsSome, is_some, IsTrue, ◌↔◌, Bool, unwrap_or}
use Rattle.std.specs.Option.{option_map}
use Rattle.ir_core.specs.declared.layout.Layout.{Layout}
use Rattle.ir_core.specs.declared.layout.Name.{Name}
use Rattle.ir_core.specs.declared.ty.TypeName.{TypeName}
use Rattle.ir_core.specs.declared.ty.TypeDef.{TypeDef}
use Rattle.ir_core.specs.declared.ty.IrType.{IrType}
use Rattle.ir_core.specs.Capped.{capped}
use Rattle.ir_core.specs.Sizes.{empty, layout_by, name_layout, layout, IsLaid, size, align}
use Rattle.ir_core.specs.Known.{Knows, Describes}

pub whole_layout : (table : List Name) (defs : List TypeDef) (t : IrType) (r : Option Layout) → Describes table defs → ((names : TypeName → Option Layout) → Knows table names → r ≡ option_map capped (layout_by names t)) → r ≡ option_map capped (layout defs t)
unfolding layout
whole_layout table defs t r d h = h (name_layout (length defs) defs) d.layouts

measured : (o : Option Layout) (l : Layout) → Some l ≡ option_map capped o → l ≡ capped (unwrap_or o empty)
measured None l e = cc
measured (Some m) l e = cc

pub size_is : (defs : List TypeDef) (t : IrType) (l : Layout) → Some l ≡ option_map capped (layout defs t) → l.size ≡ min (size defs t) 16777217
size_is defs t l e = ap Layout.size (measured (layout defs t) l e)

pub align_is : (defs : List TypeDef) (t : IrType) (l : Layout) → Some l ≡ option_map capped (layout defs t) → l.align ≡ align defs t
align_is defs t l e = ap Layout.align (measured (layout defs t) l e)

never : {P : Type 0} → (o : Option Layout) → IsSome o → None ≡ option_map capped o → P
never None s e = cc
never (Some l) s e = cc

pub has_layout : {P : Type 0} → (defs : List TypeDef) (t : IrType) → IsLaid defs t → None ≡ option_map capped (layout defs t) → P
has_layout defs t s e = never (layout defs t) s e

has_some : (o r : Option Layout) (b : Bool) → r ≡ option_map capped o → b ≡ is_some r → IsTrue b ↔ IsSome o
has_some None r b e f = (λ h. cc, λ h. cc)
has_some (Some l) r b e f = (λ h. refl, λ h. f ∙ ap is_some e)

pub laid_is : (defs : List TypeDef) (t : IrType) (r : Option Layout) (b : Bool) → r ≡ option_map capped (layout defs t) → b ≡ is_some r → IsTrue b ↔ IsLaid defs t
laid_is defs t r b e f = has_some (layout defs t) r b e f
