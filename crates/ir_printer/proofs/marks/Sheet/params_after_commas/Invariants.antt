use Rattle.std.proofs.Common.{◌≡◌, ◌++◌, map, drop}
use Rattle.ir_printer.specs.Marks.{after_commas, param_marks}
use Rattle.ir_printer.proofs.marks.Sheet.params_after_commas.Given as goal

abbrev pub invariant-loop-param : goal.invariant-loop-param
invariant-loop-param l = l.self ++ after_commas (map param_marks (drop l.param-index l.params)) ≡ l.fn.self ++ after_commas (map param_marks l.params)
