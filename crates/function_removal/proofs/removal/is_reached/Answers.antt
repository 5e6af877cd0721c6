use Rattle.std.proofs.Common.{arith}
use Rattle.std.proofs.lemmas.Bool.Decides.{nat_tests}
use Rattle.function_removal.proofs.Calls.{reached_is, reached_within}
use Rattle.function_removal.proofs.removal.is_reached.Goals as goal

pub returns-then-f-funcs : goal.returns-then-f-funcs
returns-then-f-funcs c = reached_is c.args.g.now c.args.f c.reached.result (let t = c.if-f-funcs.true in let e = c.funcs.ensures in omega (arith, t, e)) c.reached.ensures

pub returns-else-f-funcs : goal.returns-else-f-funcs
returns-else-f-funcs c = (λ t. absurd (let no = c.if-f-funcs.false in grind (arith, nat_tests)), λ h. absurd (let no = c.if-f-funcs.false in let e = c.funcs.ensures in let less = reached_within c.args.g.now c.args.f h in omega (arith, no, e, less)))
