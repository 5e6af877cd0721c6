use Rattle.std.proofs.Common.{◌≡◌, ◌+◌, ◌-◌, length, suc, sym, ap, ◌∙◌, arith}
use Rattle.ir_core.proofs.Fields.{resolved_some}
use Rattle.ir_core.proofs.defs.TypeDefs.walked.Goals as goal

pub loop-preserved : goal.loop-preserved
loop-preserved c =
    let more = c.loop-test.true in
    let len = ap length c.self.view_is in
    let is = c.len-end.ensures in
    let down : length c.args.self.now - c.loop.counter ≡ suc (length c.args.self.now - (c.loop.counter + 1)) = omega arith in
    sym (resolved_some (length c.args.self.now - c.loop.counter) (length c.args.self.now - (c.loop.counter + 1)) c.args.self.now c.loop.stripped.now c.in-Some.def.now (sym c.in-Some.ensures) down) ∙ c.loop.invariant
