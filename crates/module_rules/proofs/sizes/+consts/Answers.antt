use Rattle.std.proofs.Common.{sym, ap, ◌∙◌, List}
use Rattle.std.specs.List.{flat_map, list_any}
use Rattle.ir_core.specs.declared.ty.IrType.{IrType}
use Rattle.ir_core.specs.ValidTypes.{const_sources}
use Rattle.module_rules.specs.SizeFaults.{is_too_large, typed_const_sources}
use Rattle.module_rules.proofs.SizeLevels.{array_sources, struct_sources}
use Rattle.module_rules.proofs.sizes.+consts.Goals as goal

pub const_is_too_large-returns-in-Array : goal.const_is_too_large-returns-in-Array
const_is_too_large-returns-in-Array t c =
    c.consts_are_too_large.ensures
    ∙ ap (λ (ts : List IrType). list_any (is_too_large c.args.m.now.types.defs c.args.small.now) ts)
    (ap (flat_map typed_const_sources) c.as_slice.ensures ∙ sym (array_sources c.in-Array.items) ∙ sym (ap const_sources c.in-Array.is))

pub const_is_too_large-returns-in-Struct : goal.const_is_too_large-returns-in-Struct
const_is_too_large-returns-in-Struct t c =
    c.consts_are_too_large-in-Struct.ensures
    ∙ ap (λ (ts : List IrType). list_any (is_too_large c.args.m.now.types.defs c.args.small.now) ts)
    (ap (flat_map typed_const_sources) c.as_slice-in-Struct.ensures ∙ sym (struct_sources c.in-Struct.fields) ∙ sym (ap const_sources c.in-Struct.is))
