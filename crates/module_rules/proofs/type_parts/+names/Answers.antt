use Rattle.std.proofs.Common.{sym, ap, ◌∙◌, subst, ◌≡◌, ◌++◌, List, OnOk}
use Rattle.std.specs.List.{flat_map}
use Rattle.ir_core.specs.declared.ty.TypeName.{TypeName}
use Rattle.ir_core.specs.Parts.{names_in_type}
use Rattle.module_rules.proofs.TypeLevels.{array_names, struct_names}
use Rattle.module_rules.proofs.type_parts.+names.Goals as goal

pub push_names-returns-in-Array : goal.push_names-returns-in-Array
push_names-returns-in-Array t c =
    subst (λ (names : List TypeName). OnOk c.push_names.result (c.push_names.new.to.items ≡ c.args.to.now.items ++ names))
    (ap names_in_type c.get.ensures ∙ sym (array_names c.in-Array.field-0 c.in-Array.item) ∙ sym (ap names_in_type c.in-Array.is))
    c.push_names.ensures

pub push_names-returns-in-Struct : goal.push_names-returns-in-Struct
push_names-returns-in-Struct t c =
    subst (λ (names : List TypeName). OnOk c.push_all_names.result (c.push_all_names.new.to.items ≡ c.args.to.now.items ++ names))
    (ap (flat_map names_in_type) c.as_slice.ensures ∙ sym (struct_names c.in-Struct.fields) ∙ sym (ap names_in_type c.in-Struct.is))
    c.push_all_names.ensures
