use Rattle.std.proofs.Common.{◌≡◌, ◌+◌, drop}
use Rattle.inline_certificate.specs.Trees.{any_form}
use Rattle.inline_certificate.specs.Places.{root, after, AreAtMost}
use Rattle.inline_certificate.proofs.trees.is_tree.Given as goal

abbrev pub invariant-loop-node : goal.invariant-loop-node
invariant-loop-node l = record {
  so_far : after any_form root l.nodes ≡ after any_form l.places (drop l.node-index l.nodes);
  deepest : AreAtMost (l.node-index + 1) l.places;
}
