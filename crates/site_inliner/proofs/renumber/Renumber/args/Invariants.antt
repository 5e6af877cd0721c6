use Rattle.std.proofs.Common.{◌≡◌, map, take}
use Rattle.ir_core.specs.Plain.{other_operand}
use Rattle.site_inliner.specs.Placed.{numbers_by}
use Rattle.site_inliner.proofs.renumber.Renumber.args.Given as goal

abbrev pub invariant-loop-arg : goal.invariant-loop-arg
invariant-loop-arg l = l.new ≡ map (other_operand (numbers_by l.self.reg_table.now l.self.block_table.now l.self.regs l.self.blocks)) (take l.arg-index l.args)
