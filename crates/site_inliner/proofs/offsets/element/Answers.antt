use Rattle.std.proofs.Common.{Some, sym, ap, ◌∙◌}
use Rattle.ir_core.specs.declared.ty.IrType.TheViews.{out-IrType, outs-Array}
use Rattle.ir_safety.proofs.OperandMeanings.{item_of}
use Rattle.site_inliner.proofs.offsets.element.Goals as goal

pub returns-in-Array : goal.returns-in-Array
returns-in-Array c =
    ap Some c.get.ensures ∙ sym (item_of c.args.t.now c.in-Array.field-0 c.in-Array.item (ap out-IrType c.in-Array.is ∙ outs-Array c.in-Array.field-0 c.in-Array.item))
