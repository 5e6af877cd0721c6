use Rattle.std.proofs.Common.{◌≡◌, ◌++◌, map, drop}
use Rattle.ir_printer.specs.Printed.{global_demand}
use Rattle.ir_printer.proofs.printing.global_demands.Given as goal

abbrev pub invariant-loop-g : goal.invariant-loop-g
invariant-loop-g l = l.demands ++ map global_demand (drop l.g-index l.globals) ≡ map global_demand l.globals
