use Rattle.ir_phrases.proofs.GroupsRead.{group_refused, group_next, group_end}
use Rattle.ir_phrases.proofs.reader.Reader.inside.Goals as goal

pub returns-in_default-step : goal.returns-in_default-step
returns-in_default-step c = group_refused c.loop-awaited.self.tokens c.loop-awaited.signs _ c.in-Some.awaited c.step.result c.loop-awaited.noinline c.loop-awaited.self.names c.fault.result _ c.in-Some.ensures c.step.ensures c.in_default-step.is c.fault.ensures c.loop-awaited.invariant

pub loop-awaited-preserved : goal.loop-awaited-preserved
loop-awaited-preserved c = rw c.in_ok-pass.ensures (group_next c.loop-awaited.self.tokens c.loop-awaited.signs _ c.in_ok-signs.signs c.in-Some.awaited c.step.result c.in-Some-step.step c.loop-awaited.noinline c.sees_noinline-seen.result c.loop-awaited.self.names _ c.in-Some.ensures c.step.ensures c.in-Some-step.is c.in_ok-signs.ensures c.sees_noinline-seen.ensures c.loop-awaited.invariant)

pub returns : goal.returns
returns c = group_end c.loop-awaited.self.tokens c.loop-awaited.signs c.loop-awaited.noinline c.loop-awaited.self.names _ c.in_default.ensures.0 c.loop-awaited.invariant
