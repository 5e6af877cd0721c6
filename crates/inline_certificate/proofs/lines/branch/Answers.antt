use Rattle.inline_certificate.proofs.NodeLines.{is_branch, branch_needs_blank, branch_needs_number}
use Rattle.inline_certificate.proofs.lines.branch.Goals as goal

pub returns-in_default : goal.returns-in_default
returns-in_default c = branch_needs_blank c.args.rest.now c.in_default.ensures

pub returns-in-Some-number : goal.returns-in-Some-number
returns-in-Some-number c = is_branch c.args.rest.now c.in-Some.word.now c.in-Some-number.n c.in-Some.ensures c.in-Some-number.ensures

pub returns-in-None : goal.returns-in-None
returns-in-None c = branch_needs_number c.args.rest.now c.in-Some.word.now c.in-Some.ensures c.in-None.ensures
