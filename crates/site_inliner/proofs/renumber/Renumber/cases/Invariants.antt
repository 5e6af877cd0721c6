use Rattle.std.proofs.Common.{◌≡◌, map, take}
use Rattle.ir_core.specs.Plain.{other_case}
use Rattle.site_inliner.specs.Placed.{numbers_by}
use Rattle.site_inliner.proofs.renumber.Renumber.cases.Given as goal

abbrev pub invariant-loop-case : goal.invariant-loop-case
invariant-loop-case l = l.new ≡ map (other_case (numbers_by l.self.reg_table.now l.self.block_table.now l.self.regs l.self.blocks)) (take l.case-index l.cases)
