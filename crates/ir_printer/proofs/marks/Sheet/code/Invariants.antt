use Rattle.std.proofs.Common.{◌≡◌, ◌++◌, drop}
use Rattle.std.specs.List.{flat_map}
use Rattle.ir_printer.specs.Marks.{instr_marks}
use Rattle.ir_printer.proofs.marks.Sheet.code.Given as goal

abbrev pub invariant-loop-i : goal.invariant-loop-i
invariant-loop-i l = l.self ++ flat_map instr_marks (drop l.i-index l.code) ≡ l.fn.self ++ flat_map instr_marks l.code
