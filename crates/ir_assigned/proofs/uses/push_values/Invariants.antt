use Rattle.std.proofs.Common.{◌≡◌, ◌-◌, ◌++◌, length, drop}
use Rattle.ir_core.specs.Parts.{op_values}
use Rattle.ir_assigned.specs.Uses.{uses_in}
use Rattle.ir_assigned.proofs.uses.push_values.Given as goal

abbrev pub invariant-loop-value : goal.invariant-loop-value
invariant-loop-value l = l.uses.items ++ uses_in l.reader (drop l.at (op_values l.op)) ≡ l.fn.uses.items ++ uses_in l.reader (op_values l.op)

abbrev pub decreases-loop-value : goal.decreases-loop-value
decreases-loop-value l = length (op_values l.op) - l.at
