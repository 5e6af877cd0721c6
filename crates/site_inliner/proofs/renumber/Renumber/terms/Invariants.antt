use Rattle.std.proofs.Common.{◌≡◌, map, take}
use Rattle.ir_core.specs.Plain.{other_term}
use Rattle.site_inliner.specs.Placed.{numbers_by}
use Rattle.site_inliner.proofs.renumber.Renumber.terms.Given as goal

abbrev pub invariant-loop-term : goal.invariant-loop-term
invariant-loop-term l = l.new ≡ map (other_term (numbers_by l.self.reg_table.now l.self.block_table.now l.self.regs l.self.blocks)) (take l.term-index l.terms)
