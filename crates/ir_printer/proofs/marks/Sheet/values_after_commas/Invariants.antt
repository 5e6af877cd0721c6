use Rattle.std.proofs.Common.{◌≡◌, ◌++◌, map, drop}
use Rattle.ir_printer.specs.Marks.{after_commas, typed_marks}
use Rattle.ir_printer.proofs.marks.Sheet.values_after_commas.Given as goal

abbrev pub invariant-loop-v : goal.invariant-loop-v
invariant-loop-v l = l.self ++ after_commas (map typed_marks (drop l.v-index l.values)) ≡ l.fn.self ++ after_commas (map typed_marks l.values)
