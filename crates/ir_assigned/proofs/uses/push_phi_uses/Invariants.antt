use Rattle.std.proofs.Common.{◌≡◌, ◌++◌, drop}
use Rattle.std.specs.List.{flat_map}
use Rattle.ir_assigned.specs.Uses.{entry_uses}
use Rattle.ir_assigned.proofs.uses.push_phi_uses.Given as goal

abbrev pub invariant-loop-entry : goal.invariant-loop-entry
invariant-loop-entry l = l.uses.items ++ flat_map (entry_uses l.labels l.blocks l.place) (drop l.entry-index l.entry-items) ≡ l.fn.uses.items ++ flat_map (entry_uses l.labels l.blocks l.place) l.entry-items
