use Rattle.std.proofs.Common.{◌≡◌, ◌++◌, map, drop}
use Rattle.ir_printer.specs.Marks.{after_commas, pair_marks}
use Rattle.ir_printer.proofs.marks.Sheet.pairs_after_commas.Given as goal

abbrev pub invariant-loop-pair : goal.invariant-loop-pair
invariant-loop-pair l = l.self ++ after_commas (map pair_marks (drop l.pair-index l.pairs)) ≡ l.fn.self ++ after_commas (map pair_marks l.pairs)
