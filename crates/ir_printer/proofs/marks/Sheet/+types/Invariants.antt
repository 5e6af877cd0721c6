use Rattle.std.proofs.Common.{◌≡◌, ◌++◌, map, drop}
use Rattle.ir_printer.specs.Marks.{separated, type_marks}
use Rattle.ir_printer.proofs.Lists.{left_parts}
use Rattle.ir_printer.proofs.marks.Sheet.+types.Given as goal

abbrev pub invariant-types-loop-t : goal.invariant-types-loop-t
invariant-types-loop-t l = l.self ++ left_parts l.is_first (map type_marks (drop l.t-index l.types)) ≡ l.fn.self ++ separated (map type_marks l.types)
