use Rattle.std.proofs.Common.{Some, take}
use Rattle.std.specs.List.{flat_map}
use Rattle.ir_core.specs.declared.flat.Phi.{Phi}
use Rattle.local_passes.specs.DropDead.{if_same, values}
use Rattle.local_passes.specs.NeedTables.{Adds}
use Rattle.local_passes.proofs.use_table.UseTable.add_phis.Given as goal

abbrev pub invariant-loop-phi : goal.invariant-loop-phi
invariant-loop-phi l = Adds l.initial.self l.self (λ q. flat_map (λ (f : Phi). if_same q (Some f.reg.0) (values f)) (take l.phi-index l.phis))
