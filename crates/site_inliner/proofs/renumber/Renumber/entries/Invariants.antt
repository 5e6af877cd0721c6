use Rattle.std.proofs.Common.{◌≡◌, map, take}
use Rattle.ir_core.specs.Plain.{other_entry}
use Rattle.site_inliner.specs.Placed.{numbers_by}
use Rattle.site_inliner.proofs.renumber.Renumber.entries.Given as goal

abbrev pub invariant-loop-entry : goal.invariant-loop-entry
invariant-loop-entry l = l.new ≡ map (other_entry (numbers_by l.self.reg_table.now l.self.block_table.now l.self.regs l.self.blocks)) (take l.entry-index l.entries)
