use Rattle.std.proofs.Common.{◌≡◌, drop}
use Rattle.ir_printer.specs.Printed.{placed, all_of}
use Rattle.ir_printer.specs.Pages.{all_text}
use Rattle.ir_printer.proofs.printing.print_entities.Given as goal

abbrev pub invariant-loop-kind : goal.invariant-loop-kind
invariant-loop-kind l = all_text l.page (placed (drop l.kind-index l.kinds) l.left) ≡ all_text l.fn.page (placed l.kinds (all_of l.m))
