use Rattle.std.proofs.Common.{List, sym, subst, ◌∙◌, ◌+◌, arith}
use Rattle.std.proofs.lemmas.Bool.Decides.{nat_tests}
use mathlib.Core.Bool.{false≢true}
use Rattle.inline_certificate.specs.declared.nodes.CertNode.{CertNode}
use Rattle.inline_certificate.specs.Trees.{form_of, IsTree}
use Rattle.inline_certificate.specs.Steps.{StatesTree}
use Rattle.inline_certificate.proofs.TreeReading.{step, open_at_end, whole_at_end, is_tree}
use Rattle.inline_certificate.proofs.tree_lines.read_tree.Goals as goal

pub lines-preserved : goal.lines-preserved
lines-preserved c = step (form_of c.args.version) c.args.before c.args.bytes.now c.lines.number c.lines.rest.now c.first_line.result.0.now c.first_line.result.1.now c.lines.places c.take_node.new.places c.lines.nodes.items c.take_node.new.nodes.items c.lines.invariant c.first_line.ensures c.in_ok-take_node.ensures

pub returns-then-not-is_empty : goal.returns-then-not-is_empty
returns-then-not-is_empty c other = open_at_end (form_of c.args.version) c.args.before c.args.bytes.now c.lines.number c.lines.rest.now c.lines.places c.lines.nodes.items c.lines.invariant (grind (arith, nat_tests)) (λ none. false≢true (sym c.if-not-is_empty.true ∙ c.is_empty-2.ensures.1 none))

pub made-requires : goal.made-requires
made-requires c =
    let whole = whole_at_end (form_of c.args.version) c.args.before c.args.bytes.now c.lines.number c.lines.rest.now c.lines.places c.lines.nodes.items c.lines.invariant (grind (arith, nat_tests)) (c.is_empty-2.ensures.0 c.if-not-is_empty.false) in
    subst (λ (l : List CertNode). IsTree l) (sym c.from_vec.ensures) (is_tree (form_of c.args.version) c.lines.nodes.items whole.tree)

pub returns : goal.returns
returns c =
    let whole = whole_at_end (form_of c.args.version) c.args.before c.args.bytes.now c.lines.number c.lines.rest.now c.lines.places c.lines.nodes.items c.lines.invariant (grind (arith, nat_tests)) (c.is_empty-2.ensures.0 c.if-not-is_empty.false) in
    subst (λ (l : List CertNode). StatesTree (form_of c.args.version) (c.args.before + 1) c.args.bytes.now l) (sym (c.made.ensures ∙ c.from_vec.ensures)) whole
