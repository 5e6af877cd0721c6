use Rattle.std.proofs.Common.{arith}
use Rattle.std.proofs.lemmas.Grind.{common_steps}
use Rattle.inline_certificate.proofs.PrintedWords.{next_nodes}
use Rattle.inline_certificate.proofs.printing.push_nodes.Goals as goal

pub loop-node-preserved : goal.loop-node-preserved
loop-node-preserved c = let pushed = c.in_ok-push_node.ensures in record {
  text = grind (arith, common_steps);
  words = next_nodes c.args.nodes.now c.loop-node.node-index c.node-item.result c.loop-node-test.true c.loop-node.invariant.words c.node-item.is pushed.words;
}
