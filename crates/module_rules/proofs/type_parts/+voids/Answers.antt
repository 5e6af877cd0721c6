use Rattle.std.proofs.Common.{sym, ap, ◌∙◌}
use Rattle.std.specs.List.{list_any}
use Rattle.module_rules.specs.TypeFaults.{has_void}
use Rattle.module_rules.proofs.TypeLevels.{array_void, struct_void}
use Rattle.module_rules.proofs.type_parts.+voids.Goals as goal

pub has_void-returns-in-Array : goal.has_void-returns-in-Array
has_void-returns-in-Array t c = c.has_void.ensures ∙ ap has_void c.get.ensures ∙ sym (array_void c.in-Array.field-0 c.in-Array.item) ∙ sym (ap has_void c.in-Array.is)

pub has_void-returns-in-Struct : goal.has_void-returns-in-Struct
has_void-returns-in-Struct t c = c.any_has_void.ensures ∙ ap (list_any has_void) c.as_slice.ensures ∙ sym (struct_void c.in-Struct.fields) ∙ sym (ap has_void c.in-Struct.is)
