use Rattle.std.proofs.Common.{rules}
use Rattle.inline_certificate.proofs.NodeLines.{needs_inside, needs_kind}
use Rattle.inline_certificate.proofs.lines.read_node.Goals as goal

pub returns-in_default : goal.returns-in_default
returns-in_default c = needs_inside c.args.line.now c.in_default.ensures

pub returns-in_default-kind : goal.returns-in_default-kind
returns-in_default-kind c = needs_kind c.args.line.now c.in-Some.rest.now c.in-Some.kind c.in-Some.ensures (search rules) (search rules) (search rules) (search rules)
