use Rattle.component_split.proofs.Known.{numbered, caller_known, callee_known}
use Rattle.component_split.proofs.states.ends_of.Goals as goal

pub caller-requires : goal.caller-requires
caller-requires c = numbered c.args.g.now c.args.site c.requires

pub callee-requires : goal.callee-requires
callee-requires c = numbered c.args.g.now c.args.site c.requires

pub returns-clause-caller : goal.returns-clause-caller
returns-clause-caller c = caller_known c.args.g.now c.args.site c.caller.result c.requires c.caller.ensures

pub returns-clause-callee : goal.returns-clause-callee
returns-clause-callee c = callee_known c.args.g.now c.args.site c.callee.result c.requires c.callee.ensures
