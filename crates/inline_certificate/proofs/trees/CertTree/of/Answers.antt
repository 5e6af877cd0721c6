use Rattle.std.proofs.Common.{sym, ◌∙◌}
use mathlib.Core.Bool.{false≢true}
use Rattle.inline_certificate.specs.Trees.{any_form}
use Rattle.inline_certificate.proofs.TreeLaws.{a_tree_fills, what_fills_is_a_tree}
use Rattle.inline_certificate.proofs.trees.CertTree.of.Goals as goal

pub returns-then-not-branch-clause-none : goal.returns-then-not-branch-clause-none
returns-then-not-branch-clause-none c tree =
    let told = rw c.as_slice.ensures at c.in_ok-is_tree.ensures in
    absurd (false≢true (sym c.if-not-branch.true ∙ told.1 (a_tree_fills any_form c.args.nodes tree)))

pub invariant_of-result : goal.invariant_of-result
invariant_of-result c =
    let told = rw c.as_slice.ensures at c.in_ok-is_tree.ensures in
    what_fills_is_a_tree any_form c.args.nodes (told.0 c.if-not-branch.false)

pub returns-clause-tree : goal.returns-clause-tree
returns-clause-tree c = invariant_of-result c
