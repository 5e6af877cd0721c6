-- What a step into a type says: what an index adds to an address, and the type to which it leads.
use Rattle.std.specs.Prelude.{List, [], IfSome, unwrap_or}
use Rattle.std.specs.Option.{option_copied}
use Rattle.ir_core.specs.declared.ty.TypeDef.{TypeDef}
use Rattle.ir_core.specs.declared.ty.IrType.{IrType, Void}
use Rattle.ir_core.specs.Constants.{Index, Path, over}
use Rattle.site_inliner.specs.declared.offsets.Inward.{Inward}
use Rattle.site_inliner.specs.declared.offsets.Inward.TheVariants.{Elements, Field}
use Rattle.site_inliner.specs.Measured.{IsMeasured}

abbrev pub path_of : Inward → Index → Path
path_of (Elements stride item) i = over stride i
path_of (Field bytes field) i = record { bytes = bytes; terms = [] }

abbrev pub type_of : Inward → IrType
type_of (Elements stride item) = item.now
type_of (Field bytes field) = unwrap_or (option_copied field) Void

abbrev pub IsMeasuredStep : List TypeDef → Inward → Type 0
IsMeasuredStep defs (Elements stride item) = IsMeasured defs item.now
IsMeasuredStep defs (Field bytes field) = IfSome (option_copied field) (IsMeasured defs)
