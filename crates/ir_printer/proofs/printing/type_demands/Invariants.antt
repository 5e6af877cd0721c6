use Rattle.std.proofs.Common.{◌≡◌, ◌++◌, map, drop}
use Rattle.ir_printer.specs.Printed.{type_demand}
use Rattle.ir_printer.proofs.printing.type_demands.Given as goal

abbrev pub invariant-loop-d : goal.invariant-loop-d
invariant-loop-d l = l.demands ++ map type_demand (drop l.d-index l.defs) ≡ map type_demand l.defs
