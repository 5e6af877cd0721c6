use Rattle.std.proofs.Common.{sym, ◌∙◌, ap}
use Rattle.ir_core.specs.declared.ty.IrType.TheVariants as types
use Rattle.ir_core.proofs.Fields.{offset_is}
use Rattle.ir_core.proofs.sizes.field_offset.Goals as goal

pub returns-in-Struct : goal.returns-in-Struct
returns-in-Struct c =
    let is = sym c.resolved.ensures ∙ c.in-Struct.is ∙ ap types.Struct (sym c.as_slice.ensures) in
    offset_is c.table.result.now c.args.m.now.types.defs c.args.t.now c.as_slice.result.now c.args.index c.offset_of.result c.table.ensures c.requires.laid c.requires.small is c.requires.field c.offset_of.ensures
