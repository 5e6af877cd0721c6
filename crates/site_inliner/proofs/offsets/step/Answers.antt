use Rattle.std.proofs.Common.{◌≡◌, ℕ, Option, Some, None, slice_get, sym, ap, ◌∙◌, arith}
use Rattle.std.specs.Prelude.{unwrap_or}
use Rattle.std.specs.Option.{option_copied}
use Rattle.std.proofs.Math.Nat.{min-eq_left}
use Rattle.ir_core.specs.declared.ty.IrType.{IrType, Void}
use Rattle.ir_core.specs.Sizes.{fields, offset}
use Rattle.ir_core.specs.Constants.{element, element_of, over, into, inside}
use Rattle.module_rules.proofs.InnerTypes.{small_size}
use Rattle.site_inliner.proofs.PathLaws.{item_measured, fields_measured, bytes_alone}
use Rattle.site_inliner.proofs.offsets.step.Goals as goal

pub returns-in-Some : goal.returns-in-Some
returns-in-Some c =
    let defs = c.args.m.now.types.defs in
    let at = c.args.at.now in
    let here : element_of defs at ≡ Some c.in-Some.item.now = sym (ap element c.resolved.ensures) ∙ sym c.element.ensures ∙ ap option_copied c.in-Some.is in
    let item = item_measured defs at c.in-Some.item.now here c.requires.measured in
    let small = small_size defs c.in-Some.item.now item.1 in
    record {
      path = λ i e.
          ap (λ (k : ℕ). over k i) (c.size_up_to.ensures ∙ min-eq_left (omega (arith, small)))
          ∙ ap (λ (o : Option IrType). into defs at o i) (sym here);
      inside = λ i e. ap (λ (o : Option IrType). inside defs at o i) (sym here);
      measured = item;
    }

pub returns-in-None : goal.returns-in-None
returns-in-None c =
    let defs = c.args.m.now.types.defs in
    let at = c.args.at.now in
    let here : element_of defs at ≡ None = sym (ap element c.resolved.ensures) ∙ sym c.element.ensures ∙ ap option_copied c.in-None.is in
    record {
      path = λ i e.
          ap bytes_alone (c.offset_or_zero.ensures ∙ ap (λ (k : ℕ). unwrap_or (offset defs at k) 0) (sym e))
          ∙ ap (λ (o : Option IrType). into defs at o i) (sym here);
      inside = λ i e.
          ap (λ (o : Option IrType). unwrap_or o Void) (c.field_at.ensures ∙ ap (slice_get (fields defs at)) (sym e))
          ∙ ap (λ (o : Option IrType). inside defs at o i) (sym here);
      measured = fields_measured defs at c.args.number (option_copied c.field_at.result) c.field_at.ensures c.requires.measured;
    }
