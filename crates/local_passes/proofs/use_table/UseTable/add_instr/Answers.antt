use Rattle.std.proofs.Common.{Some, sym, subst}
use Rattle.ir_core.specs.Formed.{used_by}
use Rattle.ir_core.proofs.ByPosition.{take_all}
use Rattle.local_passes.specs.DropDead.{if_same}
use Rattle.local_passes.specs.NeedTables.{Adds}
use Rattle.local_passes.proofs.UseTables.{adds_operand}
use Rattle.local_passes.proofs.use_table.UseTable.add_instr.Goals as goal

pub loop-o-preserved : goal.loop-o-preserved
loop-o-preserved c = adds_operand c.args.self.now c.loop-o.self c.add.new.self c.args.r.0 (used_by c.args.i.now) c.loop-o.at c.in-Some.o (sym c.in-Some.ensures.value) c.loop-o.invariant c.in_ok-add.ensures

pub returns : goal.returns
returns c = subst (λ os. Adds c.args.self.now c.loop-o.self (λ q. if_same q (Some c.args.r.0) os)) (take_all (used_by c.args.i.now) c.loop-o.at (sym c.in_default.ensures.value)) c.loop-o.invariant
