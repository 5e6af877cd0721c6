use Rattle.std.proofs.Common.{◌≡◌, drop, fold}
use Rattle.ir_printer.specs.Order.{demand_after, demand}
use Rattle.ir_printer.proofs.demands.Demand.of.Given as goal

abbrev pub invariant-loop-mark : goal.invariant-loop-mark
invariant-loop-mark l = fold demand_after l.demand (drop l.mark-index l.marks) ≡ demand l.marks
