use Rattle.std.proofs.Common.{sym}
use Rattle.ir_lexer.specs.Strings.{unescaped}
use Rattle.ir_lexer.proofs.Unescaped.{goes_on, ends}
use Rattle.ir_lexer.proofs.strings.unescaped.Goals as goal

pub loop-byte-preserved : goal.loop-byte-preserved
loop-byte-preserved c =
    rw c.in_ok-push.ensures.ok (goes_on c.loop-byte.rest.now c.loop-byte.said c.in-Some.byte c.in-Some.after.now (unescaped c.args.raw.now) (sym c.in-Some.ensures) c.loop-byte.invariant)

pub returns : goal.returns
returns c = ends c.loop-byte.rest.now c.loop-byte.said (unescaped c.args.raw.now) (sym c.in_default.ensures) c.loop-byte.invariant
