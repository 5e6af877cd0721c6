use Rattle.local_passes.proofs.CopySweeps.{swept_more}
use Rattle.local_passes.proofs.copies.Sweep.add.Goals as goal

pub returns-clause-swept : goal.returns-clause-swept
returns-clause-swept c done swept once =
    swept_more done c.args.block c.args.self.now (record { blocks = c.push.new.self; spans = c.push-2.new.self; table = c.sweep_block.new.table }) (record { start = c.time-start.result; end = c.time-end.result }) swept once c.in_ok-new.ensures.extends
    c.in_ok-new.new c.in_ok-new.ensures.block c.in_ok-push.ensures.ok c.in_ok-push-2.ensures.items c.time-start.ensures c.time-end.ensures c.in_ok-new.ensures.sources
