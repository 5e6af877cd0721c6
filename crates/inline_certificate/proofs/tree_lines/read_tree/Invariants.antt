use Rattle.std.proofs.Common.{length}
use Rattle.inline_certificate.specs.Trees.{form_of}
use Rattle.inline_certificate.proofs.TreeReading.{ReadsOn}
use Rattle.inline_certificate.proofs.tree_lines.read_tree.Given as goal

abbrev pub invariant-lines : goal.invariant-lines
invariant-lines l = ReadsOn (form_of l.version) l.before l.bytes l.number l.rest l.places l.nodes.items

abbrev pub decreases-lines : goal.decreases-lines
decreases-lines l = length l.rest
