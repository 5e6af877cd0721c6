use Rattle.std.proofs.Common.{sym, ap, ◌∙◌}
use Rattle.std.specs.List.{list_any}
use Rattle.module_rules.specs.SizeFaults.{is_above, has_above}
use Rattle.module_rules.proofs.SizeLevels.{above_itself, array_above, struct_above}
use Rattle.module_rules.proofs.sizes.+above.Goals as goal

pub has_above-returns-then-is_above : goal.has_above-returns-then-is_above
has_above-returns-then-is_above t c = c.if-is_above.true ∙ sym (above_itself c.args.m.now.types.defs c.args.t.now (sym c.is_above.ensures ∙ c.if-is_above.true))

pub has_above-returns-in-Array : goal.has_above-returns-in-Array
has_above-returns-in-Array t c =
    c.has_above.ensures ∙ ap (has_above c.args.m.now.types.defs) c.get.ensures
    ∙ sym (array_above c.args.m.now.types.defs c.in-Array.field-0 c.in-Array.item (sym (ap (is_above c.args.m.now.types.defs) c.in-Array.is) ∙ sym c.is_above.ensures ∙ c.if-is_above.false))
    ∙ sym (ap (has_above c.args.m.now.types.defs) c.in-Array.is)

pub has_above-returns-in-Struct : goal.has_above-returns-in-Struct
has_above-returns-in-Struct t c =
    c.any_has_above.ensures ∙ ap (list_any (has_above c.args.m.now.types.defs)) c.as_slice.ensures
    ∙ sym (struct_above c.args.m.now.types.defs c.in-Struct.fields (sym (ap (is_above c.args.m.now.types.defs) c.in-Struct.is) ∙ sym c.is_above.ensures ∙ c.if-is_above.false))
    ∙ sym (ap (has_above c.args.m.now.types.defs) c.in-Struct.is)
