use Rattle.std.proofs.Common.{Some, map, subst}
use Rattle.ir_core.specs.declared.flat.Phi.{Phi}
use Rattle.ir_core.specs.declared.flat.Entry.{Entry}
use Rattle.local_passes.specs.DropDead.{if_same, values}
use Rattle.local_passes.specs.NeedTables.{Adds}
use Rattle.local_passes.proofs.NeedMarks.{item_at}
use Rattle.local_passes.proofs.UseTables.{adds_next}
use Rattle.local_passes.proofs.use_table.UseTable.add_phis.Goals as goal

pub loop-phi-preserved : goal.loop-phi-preserved
loop-phi-preserved c =
    adds_next c.args.self.now c.loop-phi.self c.add_entries.new.self (λ q (f : Phi). if_same q (Some f.reg.0) (values f)) c.args.phis.now c.loop-phi.phi-index c.phi-item.result (item_at c.args.phis.now c.loop-phi.phi-index c.phi-item.result c.loop-phi-test.true c.phi-item.is) c.loop-phi.invariant
    (subst (λ es. Adds c.loop-phi.self c.add_entries.new.self (λ q. if_same q (Some c.phi-item.result.reg.0) (map (λ (e : Entry). e.value) es))) c.as_slice.ensures c.in_ok-add_entries.ensures)
