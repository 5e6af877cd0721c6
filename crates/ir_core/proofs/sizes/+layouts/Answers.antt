use Rattle.std.proofs.Common.{◌≡◌, ◌∙◌, ◌+◌, suc, sym, ap, map, drop, [], ◌∷◌, Some, ℕ, arith, drop-cons}
use Rattle.std.proofs.lemmas.List.{drop_all}
use Rattle.std.specs.Option.{option_map}
use Rattle.ir_core.specs.declared.ty.IrType.{IrType}
use Rattle.ir_core.specs.Capped.{capped}
use Rattle.ir_core.specs.Sizes.{layout_by, placed, empty}
use Rattle.ir_core.proofs.Layouts.{array_none, array_some, struct_none, struct_some, field_placed, is_capped}
use Rattle.ir_core.proofs.sizes.+layouts.Goals as goal

pub layout_of-returns-in_err-layout_of-in-Array : goal.layout_of-returns-in_err-layout_of-in-Array
layout_of-returns-in_err-layout_of-in-Array t c names knows =
    c.from_residual.ensures ∙ array_none names c.in-Array.count c.in-Array.item c.args.t.now c.in-Array.is (c.in_err-layout_of-in-Array.ensures names knows ∙ ap (λ (x : IrType). option_map capped (layout_by names x)) c.get.ensures)

pub layout_of-returns-in_err-fields_of-in-Struct : goal.layout_of-returns-in_err-fields_of-in-Struct
layout_of-returns-in_err-fields_of-in-Struct t c names knows =
    c.from_residual-in_err-fields_of-in-Struct.ensures ∙ struct_none names c.in-Struct.fields c.args.t.now c.in-Struct.is (c.in_err-fields_of-in-Struct.ensures names knows ∙ ap (λ xs. option_map capped (placed empty (map (layout_by names) xs))) c.as_slice.ensures)

pub layout_of-returns-in_ok-layout_of-in-Array : goal.layout_of-returns-in_ok-layout_of-in-Array
layout_of-returns-in_ok-layout_of-in-Array t c names knows =
    array_some names c.in-Array.count c.in-Array.item c.args.t.now c.in_ok-layout_of-in-Array.field-0 c.times.result c.in-Array.is (c.in_ok-layout_of-in-Array.ensures names knows ∙ ap (λ (x : IrType). option_map capped (layout_by names x)) c.get.ensures) c.times.ensures

pub layout_of-returns-in_ok-fields_of-in-Struct : goal.layout_of-returns-in_ok-fields_of-in-Struct
layout_of-returns-in_ok-fields_of-in-Struct t c names knows =
    struct_some names c.in-Struct.fields c.args.t.now c.in_ok-fields_of-in-Struct.field-0 c.finished.result c.in-Struct.is (c.in_ok-fields_of-in-Struct.ensures names knows ∙ ap (λ xs. option_map capped (placed empty (map (layout_by names) xs))) c.as_slice.ensures) c.finished.ensures

pub fields_of-loop-field-preserved : goal.fields_of-loop-field-preserved
fields_of-loop-field-preserved t c = (
  is_capped _ _ c.then-before.ensures,
  λ names knows.
      let within = c.loop-field-test.true in
      let up : suc c.loop-field.field-index ≡ c.loop-field.field-index + 1 = omega arith in
      let opened : drop c.loop-field.field-index c.args.fields.now ≡ c.field-item.result ∷ drop (c.loop-field.field-index + 1) c.args.fields.now =
      drop-cons c.args.fields.now c.loop-field.field-index c.field-item.result within ∙ ap (λ (x : IrType). x ∷ drop (suc c.loop-field.field-index) c.args.fields.now) (sym c.field-item.is) ∙ ap (λ (k : ℕ). c.field-item.result ∷ drop k c.args.fields.now) up in
      field_placed (layout_by names c.field-item.result) (map (layout_by names) (drop (c.loop-field.field-index + 1) c.args.fields.now)) c.loop-field.before c.in_ok-layout_of.field-0 c.then-before.result (c.in_ok-layout_of.ensures names knows) c.then-before.ensures
      ∙ ap (λ xs. option_map capped (placed c.loop-field.before (map (layout_by names) xs))) (sym opened)
      ∙ c.loop-field.invariant.1 names knows,
)

pub fields_of-returns : goal.fields_of-returns
fields_of-returns t c names knows =
    let ended : drop c.loop-field.field-index c.args.fields.now ≡ [] = drop_all c.loop-field.field-index c.args.fields.now c.loop-field-test.false in
    ap Some c.loop-field.invariant.0 ∙ ap (λ xs. option_map capped (placed c.loop-field.before (map (layout_by names) xs))) (sym ended) ∙ c.loop-field.invariant.1 names knows
