use Rattle.std.proofs.Common.{◌≡◌, ◌++◌, drop}
use Rattle.std.specs.List.{flat_map}
use Rattle.ir_printer.specs.Marks.{case_marks}
use Rattle.ir_printer.proofs.marks.Sheet.cases.Given as goal

abbrev pub invariant-loop-case : goal.invariant-loop-case
invariant-loop-case l = l.self ++ flat_map case_marks (drop l.case-index l.cases) ≡ l.fn.self ++ flat_map case_marks l.cases
