use Rattle.std.proofs.Common.{◌≡◌, ◌++◌, map, drop}
use Rattle.ir_printer.specs.Printed.{func_demand}
use Rattle.ir_printer.proofs.printing.func_demands.Given as goal

abbrev pub invariant-loop-f : goal.invariant-loop-f
invariant-loop-f l = l.demands ++ map func_demand (drop l.f-index l.funcs) ≡ map func_demand l.funcs
