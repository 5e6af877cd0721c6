use Rattle.std.proofs.Common.{◌≡◌, ◌++◌, drop}
use Rattle.ir_assigned.specs.Uses.{blocks_uses, all_uses}
use Rattle.ir_assigned.proofs.uses.uses_of.Given as goal

abbrev pub invariant-loop-b : goal.invariant-loop-b
invariant-loop-b l = l.uses.items ++ blocks_uses l.labels l.blocks l.b (drop l.b l.blocks) ≡ all_uses l.labels l.blocks
