use Rattle.std.proofs.Common.{sym, ap, ◌∙◌}
use Rattle.ir_printer.specs.Order.{order, first_known}
use Rattle.ir_printer.proofs.Turns.{turned, all_found}
use Rattle.ir_printer.proofs.order.order_of.Goals as goal

pub loop-kind-preserved : goal.loop-kind-preserved
loop-kind-preserved c =
    turned c.loop-kind.kinds.items _ c.loop-kind.known _ c.loop-kind.waiting _ c.in-Some.kind _ (sym c.turn.ensures ∙ c.in-Some.is) c.in_ok-push.ensures.items
    (c.first_known-known.ensures ∙ ap (first_known c.loop-kind.known) c.queue.ensures) c.take.ensures c.loop-kind.invariant

pub returns : goal.returns
unfolding order
returns c = all_found c.loop-kind.kinds.items c.loop-kind.known c.loop-kind.waiting _ (sym c.turn.ensures ∙ c.in_default.is) c.loop-kind.invariant
