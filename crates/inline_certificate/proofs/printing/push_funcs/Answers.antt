use Rattle.std.proofs.Common.{arith}
use Rattle.std.proofs.lemmas.Grind.{common_steps}
use Rattle.inline_certificate.proofs.PrintedWords.{next_funcs}
use Rattle.inline_certificate.proofs.printing.push_funcs.Goals as goal

pub loop-f-preserved : goal.loop-f-preserved
loop-f-preserved c = let pushed = c.in_ok-push_func.ensures in record {
  text = grind (arith, common_steps);
  words = next_funcs c.args.funcs.now c.loop-f.f-index _ c.loop-f-test.true c.loop-f.invariant.words c.push_func.ensures.word;
}
