use Rattle.inline_certificate.proofs.NodeLines.{is_leaf, leaf_needs_blank, leaf_needs_value}
use Rattle.inline_certificate.proofs.lines.leaf.Goals as goal

pub returns-in_default : goal.returns-in_default
returns-in_default c = leaf_needs_blank c.args.rest.now c.in_default.ensures

pub returns-in-Some-value : goal.returns-in-Some-value
returns-in-Some-value c = is_leaf c.args.rest.now c.in-Some.word.now c.in-Some-value.v c.in-Some.ensures c.in-Some-value.ensures

pub returns-in-None : goal.returns-in-None
returns-in-None c = leaf_needs_value c.args.rest.now c.in-Some.word.now c.in-Some.ensures c.in-None.ensures
