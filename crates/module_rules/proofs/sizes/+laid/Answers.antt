use Rattle.std.proofs.Common.{sym, ap, ◌∙◌, List}
use Rattle.std.specs.List.{flat_map, list_all}
use Rattle.ir_core.specs.declared.ty.TypeName.{TypeName}
use Rattle.ir_core.specs.Parts.{names_in_type}
use Rattle.module_rules.specs.TypeFaults.{is_laid_name}
use Rattle.module_rules.proofs.TypeLevels.{array_names, struct_names}
use Rattle.module_rules.proofs.sizes.+laid.Goals as goal

pub names_laid-returns-in-Array : goal.names_laid-returns-in-Array
names_laid-returns-in-Array t c =
    c.names_laid.ensures
    ∙ ap (λ (xs : List TypeName). list_all (is_laid_name c.args.small.now) xs) (ap names_in_type c.get.ensures ∙ sym (array_names c.in-Array.field-0 c.in-Array.item) ∙ sym (ap names_in_type c.in-Array.is))

pub names_laid-returns-in-Struct : goal.names_laid-returns-in-Struct
names_laid-returns-in-Struct t c =
    c.all_names_laid.ensures
    ∙ ap (λ (xs : List TypeName). list_all (is_laid_name c.args.small.now) xs) (ap (flat_map names_in_type) c.as_slice.ensures ∙ sym (struct_names c.in-Struct.fields) ∙ sym (ap names_in_type c.in-Struct.is))
