use Rattle.std.proofs.Common.{◌≡◌, None, Some, slice_get, sym, ap, ◌∙◌}
use Rattle.std.specs.Option.{option_copied}
use Rattle.ir_core.specs.Parts.{end_values}
use Rattle.ir_assigned.proofs.ByPosition.{nearer, read_more, read_all}
use Rattle.ir_assigned.proofs.uses.push_end_uses.Goals as goal

pub loop-value-preserved : goal.loop-value-preserved
loop-value-preserved c =
    let here : slice_get (end_values c.args.end.now) c.loop-value.at ≡ Some c.in-Some.value.now = sym c.operand.ensures.value ∙ ap option_copied c.in-Some.is in
    read_more c.args.reader (end_values c.args.end.now) c.loop-value.at c.in-Some.value.now _ c.loop-value.uses.items c.push_use.new.uses.items here (c.in_ok-push_use.ensures {u = tt}) c.loop-value.invariant

pub loop-value-smaller : goal.loop-value-smaller
loop-value-smaller c =
    let here : slice_get (end_values c.args.end.now) c.loop-value.at ≡ Some c.in-Some.value.now = sym c.operand.ensures.value ∙ ap option_copied c.in-Some.is in
    nearer (end_values c.args.end.now) c.loop-value.at c.in-Some.value.now here

pub returns : goal.returns
returns c =
    let past : slice_get (end_values c.args.end.now) c.loop-value.at ≡ None = sym c.operand.ensures.value ∙ ap option_copied c.in_default.is in
    read_all c.args.reader (end_values c.args.end.now) c.loop-value.at _ c.loop-value.uses.items past c.loop-value.invariant
