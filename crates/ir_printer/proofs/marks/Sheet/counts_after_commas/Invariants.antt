use Rattle.std.proofs.Common.{◌≡◌, ◌++◌, map, drop}
use Rattle.ir_printer.specs.Marks.{after_commas, count_marks}
use Rattle.ir_printer.proofs.marks.Sheet.counts_after_commas.Given as goal

abbrev pub invariant-loop-count : goal.invariant-loop-count
invariant-loop-count l = l.self ++ after_commas (map count_marks (drop l.count-index l.counts)) ≡ l.fn.self ++ after_commas (map count_marks l.counts)
