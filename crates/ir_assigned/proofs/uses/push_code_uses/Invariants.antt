use Rattle.std.proofs.Common.{◌≡◌, ◌++◌, drop}
use Rattle.ir_assigned.specs.Uses.{code_uses}
use Rattle.ir_assigned.proofs.uses.push_code_uses.Given as goal

abbrev pub invariant-loop-at : goal.invariant-loop-at
invariant-loop-at l = l.uses.items ++ code_uses l.labels l.blocks l.b l.at (drop l.at l.block.code) ≡ l.fn.uses.items ++ code_uses l.labels l.blocks l.b 0 l.block.code
