use Rattle.std.proofs.Common.{rules}
use Rattle.ir_core.proofs.chains.go_along.Goals as goal

pub returns-then-not-see-clause-right : goal.returns-then-not-see-clause-right
returns-then-not-see-clause-right c = c.see.ensures.right c.args.defs.now c.loop.invariant.right

pub returns-in_err-push-clause-right : goal.returns-in_err-push-clause-right
returns-in_err-push-clause-right c = c.see.ensures.right c.args.defs.now c.loop.invariant.right

pub returns-in-None-clause-right : goal.returns-in-None-clause-right
returns-in-None-clause-right c = c.see.ensures.right c.args.defs.now c.loop.invariant.right

pub loop-preserved : goal.loop-preserved
loop-preserved c = record { right = c.see.ensures.right c.args.defs.now c.loop.invariant.right; len = search rules }
