use Rattle.std.proofs.Common.{◌≡◌, ◌++◌, map, drop}
use Rattle.ir_printer.specs.Marks.{separated, typed_const_marks}
use Rattle.ir_printer.proofs.Lists.{left_parts}
use Rattle.ir_printer.proofs.marks.Sheet.+constants.Given as goal

abbrev pub invariant-typed_constants-loop-item : goal.invariant-typed_constants-loop-item
invariant-typed_constants-loop-item l = l.self ++ left_parts l.is_first (map typed_const_marks (drop l.item-index l.items)) ≡ l.fn.self ++ separated (map typed_const_marks l.items)
