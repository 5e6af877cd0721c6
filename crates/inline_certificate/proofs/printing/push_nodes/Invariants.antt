use Rattle.std.proofs.Common.{◌≡◌, ◌++◌, take}
use Rattle.inline_certificate.specs.Text.{nodes_text}
use Rattle.inline_certificate.specs.Certificates.{AreNodes}
use Rattle.inline_certificate.proofs.printing.push_nodes.Given as goal

abbrev pub invariant-loop-node : goal.invariant-loop-node
invariant-loop-node l = record {
  text : l.text.items ≡ l.initial.text.items ++ nodes_text (take l.node-index l.nodes);
  words : AreNodes (take l.node-index l.nodes);
}
