use Rattle.std.proofs.Common.{◌≡◌, ◌-◌, ◌++◌, length, drop}
use Rattle.ir_core.specs.Parts.{end_values}
use Rattle.ir_assigned.specs.Uses.{uses_in}
use Rattle.ir_assigned.proofs.uses.push_end_uses.Given as goal

abbrev pub invariant-loop-value : goal.invariant-loop-value
invariant-loop-value l = l.uses.items ++ uses_in l.reader (drop l.at (end_values l.end)) ≡ l.fn.uses.items ++ uses_in l.reader (end_values l.end)

abbrev pub decreases-loop-value : goal.decreases-loop-value
decreases-loop-value l = length (end_values l.end) - l.at
