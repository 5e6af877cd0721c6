use Rattle.std.proofs.Common.{sym, ap, ◌∙◌, subst, ◌≡◌, List, OnOk}
use Rattle.std.specs.List.{flat_map}
use Rattle.ir_core.specs.declared.ty.IrType.{IrType}
use Rattle.ir_core.specs.Parts.{const_types}
use Rattle.ir_core.specs.ValidTypes.{value_uses}
use Rattle.module_rules.specs.TypeFaults.{state, with_uses, typed_const_types}
use Rattle.module_rules.proofs.ConstLevels.{array_types, struct_types}
use Rattle.module_rules.proofs.type_uses.+consts.Goals as goal

pub add_const-returns-in-Array : goal.add_const-returns-in-Array
add_const-returns-in-Array t c =
    subst (λ (ts : List IrType). OnOk c.add_consts.result (state c.add_consts.new.to ≡ with_uses (state c.args.to.now) (value_uses c.args.place ts)))
    (ap (flat_map typed_const_types) c.as_slice-in-Array.ensures ∙ sym (array_types c.in-Array.items) ∙ sym (ap const_types c.in-Array.is))
    c.add_consts.ensures

pub add_const-returns-in-Struct : goal.add_const-returns-in-Struct
add_const-returns-in-Struct t c =
    subst (λ (ts : List IrType). OnOk c.add_consts-in-Struct.result (state c.add_consts-in-Struct.new.to ≡ with_uses (state c.args.to.now) (value_uses c.args.place ts)))
    (ap (flat_map typed_const_types) c.as_slice-in-Struct.ensures ∙ sym (struct_types c.in-Struct.fields) ∙ sym (ap const_types c.in-Struct.is))
    c.add_consts-in-Struct.ensures
