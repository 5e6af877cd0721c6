use Rattle.std.proofs.Common.{◌≡◌, ◌++◌, drop}
use Rattle.std.specs.List.{flat_map}
use Rattle.ir_printer.specs.Layout.{escaped}
use Rattle.ir_printer.proofs.spelling.push_all_escaped.Given as goal

abbrev pub invariant-loop-b : goal.invariant-loop-b
invariant-loop-b l = l.text.items ++ flat_map escaped (drop l.b-index l.said) ≡ l.fn.text.items ++ flat_map escaped l.said
