use Rattle.std.proofs.Common.{true≢false, sym, arith}
use Rattle.function_removal.proofs.Calls.{none_yet, one_more, none_at_all}
use Rattle.function_removal.proofs.removal.has_kept_call.Goals as goal

pub loop-n-init : goal.loop-n-init
loop-n-init c = none_yet c.args.g.now c.args.d.now c.args.f

pub loop-n-preserved : goal.loop-n-preserved
loop-n-preserved c = one_more c.args.g.now c.args.d.now c.args.f c.loop-n.n c.loop-n.invariant c.keeps_call.result c.keeps_call.ensures c.if-keeps_call.false

pub returns : goal.returns
returns c = (λ t. absurd (true≢false (sym t)), λ k. absurd (none_at_all c.args.g.now c.args.d.now c.args.f c.loop-n.n (let e = c.sites-n-end.ensures in let over = c.loop-n-test.false in omega (arith, e, over)) c.loop-n.invariant k.0 k.1))
