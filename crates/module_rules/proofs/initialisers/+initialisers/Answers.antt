use Rattle.std.proofs.Common.{sym, ap, ◌∙◌, length, List}
use Rattle.std.specs.List.{list_all}
use Rattle.ir_core.specs.declared.ty.IrType.{IrType, out-IrType}
use Rattle.ir_core.specs.declared.constant.Const.{Const}
use Rattle.ir_core.specs.declared.constant.TypedConst.{TypedConst}
use Rattle.module_rules.specs.InitFaults.{is_array_of, is_struct_of, has_type, is_item, are_fields_of}
use Rattle.module_rules.proofs.InitLevels.{array_has, struct_has}
use Rattle.module_rules.proofs.initialisers.+initialisers.Goals as goal

pub has_type-returns-in-Array : goal.has_type-returns-in-Array
has_type-returns-in-Array t c =
    c.is_array_of.ensures
    ∙ ap (λ (items : List TypedConst). is_array_of (length items) (λ (u : IrType). list_all (is_item c.args.defs.now c.args.names.now u) items) (out-IrType c.resolved-plain.result.now)) c.as_slice-in-Array.ensures
    ∙ ap (λ (u : IrType). is_array_of (length c.in-Array.items) (λ (v : IrType). list_all (is_item c.args.defs.now c.args.names.now v) c.in-Array.items) (out-IrType u)) c.resolved-plain.ensures
    ∙ sym (array_has c.args.defs.now c.args.names.now c.in-Array.items c.args.t.now)
    ∙ sym (ap (λ (k : Const). has_type c.args.defs.now c.args.names.now k c.args.t.now) c.in-Array.is)

pub has_type-returns-in-Struct : goal.has_type-returns-in-Struct
has_type-returns-in-Struct t c =
    c.is_struct_of.ensures
    ∙ ap (λ (values : List TypedConst). is_struct_of (are_fields_of c.args.defs.now c.args.names.now values) (out-IrType c.resolved-plain.result.now)) c.as_slice-in-Struct.ensures
    ∙ ap (λ (u : IrType). is_struct_of (are_fields_of c.args.defs.now c.args.names.now c.in-Struct.values) (out-IrType u)) c.resolved-plain.ensures
    ∙ sym (struct_has c.args.defs.now c.args.names.now c.in-Struct.values c.args.t.now)
    ∙ sym (ap (λ (k : Const). has_type c.args.defs.now c.args.names.now k c.args.t.now) c.in-Struct.is)
