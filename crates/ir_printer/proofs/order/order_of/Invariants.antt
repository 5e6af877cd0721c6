use Rattle.std.proofs.Common.{◌≡◌, ◌++◌}
use Rattle.ir_printer.specs.Order.{turns, count, nothing_known}
use Rattle.ir_printer.proofs.order.order_of.Given as goal

abbrev pub invariant-loop-kind : goal.invariant-loop-kind
invariant-loop-kind l = l.kinds.items ++ turns (count l.waiting) l.known l.waiting ≡ turns (count l.demands) nothing_known l.demands

abbrev pub decreases-loop-kind : goal.decreases-loop-kind
decreases-loop-kind l = count l.waiting
