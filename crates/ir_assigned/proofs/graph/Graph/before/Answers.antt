use Rattle.ir_assigned.proofs.Joining.{before_only, before_each}
use Rattle.ir_assigned.proofs.graph.Graph.before.Goals as goal

pub returns-clause-only : goal.returns-clause-only
returns-clause-only c = before_only c.self.inside.func.now c.args.self.now c.self.inside.before.items c.self.invariant c.self.view_is c.args.block c.requires c.as_slice.result.now c.index.result.now c.as_slice.ensures c.index.ensures

pub returns-clause-each : goal.returns-clause-each
returns-clause-each c = before_each c.self.inside.func.now c.args.self.now c.self.inside.before.items c.self.invariant c.self.view_is c.args.block c.requires c.as_slice.result.now c.index.result.now c.as_slice.ensures c.index.ensures
