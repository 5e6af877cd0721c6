use Rattle.std.proofs.Common.{◌≡◌, ◌++◌, drop}
use Rattle.std.specs.Prelude.{[]}
use Rattle.ir_printer.specs.Layout.{marks_text}
use Rattle.ir_printer.proofs.spelling.push_marks.Given as goal

abbrev pub invariant-loop-mark : goal.invariant-loop-mark
invariant-loop-mark l = l.text.items ++ marks_text l.names l.gap (drop l.mark-index l.marks) ≡ l.fn.text.items ++ marks_text l.names [] l.marks
