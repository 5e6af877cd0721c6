use Rattle.std.proofs.Common.{◌≡◌, ◌++◌, map, drop}
use Rattle.ir_printer.specs.Printed.{declaration_demand}
use Rattle.ir_printer.proofs.printing.declaration_demands.Given as goal

abbrev pub invariant-loop-d : goal.invariant-loop-d
invariant-loop-d l = l.demands ++ map (declaration_demand l.symbols) (drop l.d-index l.declared) ≡ map (declaration_demand l.symbols) l.declared
